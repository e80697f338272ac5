-- A word that is shown byte by byte.
use Rattle.std.proofs.Common.{◌≡◌, ◌≢◌, ◌<◌, ◌≤◌, ◌==◌, ◌++◌, ◌+◌, ◌-◌, ℕ, true, false, List, [], ◌∷◌, ap, sym, ◌∙◌, refl, arith, add-one, drop, length, get_or}
use Rattle.std.proofs.lemmas.List.{drop_all}
use Rattle.std.proofs.Math.Seq.{drop-cons}
use Rattle.t1_reason_texts.specs.Names.{ellipsis}
use Rattle.t1_reason_texts.specs.WordTexts.{shown_bytes, shown_letter}

head_of : (word : List ℕ) (i : ℕ) → i < length word → drop i word ≡ get_or word i 0 ∷ drop (i + 1) word
head_of word i less = rw (add-one, drop-cons word i 0) refl

is_none : (left : ℕ) → left ≡ 0 → (left == 0) ≡ true
is_none left none = grind arith

is_some : (left : ℕ) → left ≢ 0 → (left == 0) ≡ false
is_some left some = grind arith

cut_at : (left byte : ℕ) (bytes : List ℕ) → left ≡ 0 → shown_bytes left (byte ∷ bytes) ≡ ellipsis
unfolding shown_bytes
cut_at left byte bytes none = rw (is_none left none) refl

more_at : (left byte : ℕ) (bytes : List ℕ) → left ≢ 0 → shown_letter byte ++ shown_bytes (left - 1) bytes ≡ shown_bytes left (byte ∷ bytes)
unfolding shown_bytes
more_at left byte bytes some = rw (is_some left some) refl

pub cut_here : (left : ℕ) (word : List ℕ) (i : ℕ) → i < length word → left ≡ 0 → ellipsis ≡ shown_bytes left (drop i word)
cut_here left word i within none = sym (ap (shown_bytes left) (head_of word i within) ∙ cut_at left (get_or word i 0) (drop (i + 1) word) none)

pub one_more : (left : ℕ) (word : List ℕ) (i : ℕ) → i < length word → left ≢ 0
    → shown_letter (get_or word i 0) ++ shown_bytes (left - 1) (drop (i + 1) word) ≡ shown_bytes left (drop i word)
one_more left word i within some =
    more_at left (get_or word i 0) (drop (i + 1) word) some ∙ sym (ap (shown_bytes left) (head_of word i within))

pub none_left : (left : ℕ) (word : List ℕ) (i : ℕ) → length word ≤ i → shown_bytes left (drop i word) ≡ []
unfolding shown_bytes
none_left left word i past = rw (drop_all i word past) refl
