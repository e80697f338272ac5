-- A name that is shown byte by byte.
use Rattle.std.proofs.Common.{◌≡◌, ◌<◌, ◌≤◌, ◌++◌, ◌+◌, ◌-◌, ℕ, true, false, List, [], ◌∷◌, ap, sym, ◌∙◌, refl, arith, add-one, drop, length, get_or, nat_lt}
use Rattle.std.proofs.lemmas.List.{drop_all}
use Rattle.std.proofs.Math.Seq.{drop-cons}
use Rattle.t1_reason_texts.specs.Names.{ellipsis, shown_byte, shown_within, width_of}

is_less : (a b : ℕ) → a < b → nat_lt a b ≡ true
is_less a b less = grind arith

is_no_less : (a b : ℕ) → b ≤ a → nat_lt a b ≡ false
is_no_less a b more = grind arith

head_of : (name : List ℕ) (i : ℕ) → i < length name → drop i name ≡ get_or name i 0 ∷ drop (i + 1) name
head_of name i less = rw (add-one, drop-cons name i 0) refl

cut_at : (room byte : ℕ) (bytes : List ℕ) → room < width_of byte → shown_within room (byte ∷ bytes) ≡ ellipsis
unfolding shown_within
cut_at room byte bytes less = rw (is_less room (width_of byte) less) refl

more_at : (room byte : ℕ) (bytes : List ℕ) → width_of byte ≤ room
    → shown_byte byte ++ shown_within (room - width_of byte) bytes ≡ shown_within room (byte ∷ bytes)
unfolding shown_within
more_at room byte bytes fits = rw (is_no_less room (width_of byte) fits) refl

pub cut_here : (room : ℕ) (name : List ℕ) (i : ℕ) → i < length name → room < width_of (get_or name i 0)
    → ellipsis ≡ shown_within room (drop i name)
cut_here room name i within less = sym (ap (shown_within room) (head_of name i within) ∙ cut_at room (get_or name i 0) (drop (i + 1) name) less)

pub one_more : (room width : ℕ) (name : List ℕ) (i : ℕ) → i < length name → width ≡ width_of (get_or name i 0) → width ≤ room
    → shown_byte (get_or name i 0) ++ shown_within (room - width) (drop (i + 1) name) ≡ shown_within room (drop i name)
one_more room width name i within is fits =
    let enough : width_of (get_or name i 0) ≤ room = omega (arith, is) in
    ap (λ (w : ℕ). shown_byte (get_or name i 0) ++ shown_within (room - w) (drop (i + 1) name)) is
    ∙ more_at room (get_or name i 0) (drop (i + 1) name) enough
    ∙ sym (ap (shown_within room) (head_of name i within))

pub none_left : (room : ℕ) (name : List ℕ) (i : ℕ) → length name ≤ i → shown_within room (drop i name) ≡ []
unfolding shown_within
none_left room name i past = rw (drop_all i name past) refl
