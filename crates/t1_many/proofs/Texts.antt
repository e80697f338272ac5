-- Texts that are compared, and tests that all their bytes pass.
use Rattle.std.proofs.Common.{◌≡◌, ℕ, Bool, true, false, true≢false, List, [], ◌∷◌, inl, inr, refl, sym, subst, ◌∙◌}
use Rattle.std.proofs.lemmas.Bool.{and_parts, cases_Bool}
use Rattle.std.proofs.lemmas.Slice.Eq.{bytes_eq-Decides}
use Rattle.std.specs.List.{list_all}
use Rattle.std.specs.Str.{bytes_eq}

pub equal : (a b : List ℕ) → bytes_eq a b ≡ true → a ≡ b
equal a b same = (bytes_eq-Decides a b).0 same

pub itself : (a : List ℕ) → bytes_eq a a ≡ true
itself a = (bytes_eq-Decides a a).1 refl

pub apart : (a b : List ℕ) → bytes_eq a b ≡ false → bytes_eq b a ≡ false
apart a b other = elim (cases_Bool (bytes_eq b a)) [
  | inl same ↦ (let is : b ≡ a = equal b a same in absurd (true≢false (sym (itself a) ∙ subst (λ t. bytes_eq a t ≡ false) is other)))
  | inr not_same ↦ not_same
]

-- a test that is passed wherever another one is
pub all_by : (p q : ℕ → Bool) → ((byte : ℕ) → p byte ≡ true → q byte ≡ true) → (bytes : List ℕ) → list_all p bytes ≡ true
    → list_all q bytes ≡ true
all_by p q each [] all = refl
all_by p q each (byte ∷ bytes) all =
    let parts = and_parts _ _ all in
    rw (each byte parts.0) (all_by p q each bytes parts.1)
