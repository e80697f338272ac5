-- Lines that are words.
use Rattle.std.proofs.Common.{◌≡◌, ℕ, true, false, List, arith, length, ltb, ap, ◌∙◌}
use Rattle.std.proofs.lemmas.Bool.{and_from, and_left, false_from_ne_true, lt-ltb}
use Rattle.std.proofs.lemmas.Str.{IsUtf8-from_is_utf8, is_utf8-from_IsUtf8}
use Rattle.std.specs.Str.{IsUtf8, is_utf8}
use Rattle.t1_names.specs.Lists.{is_word}

pub some_word : (line word : List ℕ) → word ≡ line → IsUtf8 line → (length word ≡ 0 → ⊥) → (word ≡ line) × (is_word line ≡ true)
some_word line word is text some =
    let long : (length line ≡ 0 → ⊥) = λ none. some (ap length is ∙ none) in
    (is, and_from (is_utf8 line) (ltb 0 (length line)) (is_utf8-from_IsUtf8 line text) (lt-ltb 0 (length line) (omega arith)))

pub no_text : (line : List ℕ) → (IsUtf8 line → ⊥) → is_word line ≡ false
no_text line none = and_left (is_utf8 line) (ltb 0 (length line)) (false_from_ne_true (is_utf8 line) (λ is. none (IsUtf8-from_is_utf8 line is)))
