-- The words of a text are its tokens.
use Rattle.std.proofs.Common.{◌≡◌, ℕ, Bool, true, false, ◌&&◌, Option, Some, None, Result, Ok, Err, List, [], ◌∷◌, refl, ap, ◌∙◌, map}
use Rattle.std.proofs.lemmas.Bool.{and_parts}
use Rattle.std.proofs.lemmas.Slice.Eq.{bytes_eq-Decides}
use Rattle.std.specs.Bool.{then_some}
use Rattle.std.specs.Str.{bytes_eq}
use Rattle.t1_scan.specs.declared.error.ScanError.{ScanError}
use Rattle.t1_scan.specs.declared.token.Kind.{Kind}
use Rattle.t1_scan.specs.declared.token.Kind.TheVariants.{Number, Name, Word, Text, Proc, Array}
use Rattle.t1_scan.specs.Texts.{IsReadAs}
use Rattle.t1_scan.specs.Tokens.{Found, token_of}
use Rattle.t1_words.specs.Pairs.{holds}
use Rattle.t1_words.specs.Readers.{is_word, after_word, is_end, are_words}
use Rattle.t1_words.specs.Laws.{word_of, WordsAreTokens}

word_is : (k : Kind) → is_word k ≡ true → k ≡ Word
word_is Word h = refl
word_is (Number v) h = cc
word_is Name h = cc
word_is Text h = cc
word_is Proc h = cc
word_is Array h = cc

-- Where a test of what is kept holds.
kept_parts : {A : Type 0} (test : A → Bool) (b : Bool) (x : A) → holds test (then_some b x) ≡ true → (b ≡ true) × (test x ≡ true)
kept_parts test true x h = (refl, h)
kept_parts test false x h = cc

found_of : Kind → List ℕ → List ℕ → Result (Option Found) ScanError
found_of k text rest = Ok (Some (record { kind = k; text = text; rest = rest }))

word_read : (w : List ℕ) (test : List ℕ → Bool) (r : Result (Option Found) ScanError) → holds test (after_word w r) ≡ true
    → (rest : List ℕ) × (r ≡ Ok (Some (record { kind = Word; text = w; rest = rest }))) × (test rest ≡ true)
word_read w test (Err e) h = cc
word_read w test (Ok None) h = cc
word_read w test (Ok (Some found)) h =
    let p = kept_parts test (is_word found.kind && bytes_eq found.text w) found.rest h in
    let q = and_parts (is_word found.kind) (bytes_eq found.text w) p.0 in
    let kind = word_is found.kind q.0 in
    let text = (bytes_eq-Decides found.text w).0 q.1 in (
      found.rest,
      ap (λ k. Ok (Some (record { kind = k; text = found.text; rest = found.rest }))) kind
          ∙ ap (λ t. Ok (Some (record { kind = Word; text = t; rest = found.rest }))) text,
      p.1,
    )

end_is : (r : Result (Option Found) ScanError) → is_end r ≡ true → r ≡ Ok None
end_is (Err e) h = cc
end_is (Ok None) h = refl
end_is (Ok (Some found)) h = cc

to_tokens : (words : List (List ℕ)) (s : List ℕ) → are_words words s ≡ true → IsReadAs s (map word_of words)
to_tokens [] s h = end_is (token_of s) h
to_tokens (w ∷ ws) s h =
    let x = word_read w (are_words ws) (token_of s) h in
    (x.0, x.1, to_tokens ws x.0 x.2)

itself : (w : List ℕ) → bytes_eq w w ≡ true
itself w = (bytes_eq-Decides w w).1 refl

from_tokens : (words : List (List ℕ)) (s : List ℕ) → IsReadAs s (map word_of words) → are_words words s ≡ true
from_tokens [] s h = ap is_end h
from_tokens (w ∷ ws) s h =
    ap (λ r. holds (are_words ws) (after_word w r)) h.1 ∙ ap (λ b. holds (are_words ws) (then_some b h.0)) (itself w) ∙ from_tokens ws h.0 h.2

pub words_are_tokens : WordsAreTokens
words_are_tokens words s = (to_tokens words s, from_tokens words s)
