-- The longest prefix of a list whose bytes pass a test.
use Rattle.std.proofs.Common.{◌≡◌, ◌+◌, ℕ, suc, Bool, true, false, if◌then◌else◌, List, [], ◌∷◌, drop, take, refl, subst, inl, inr, arith}
use Rattle.std.proofs.lemmas.Bool.{cases_Bool}
use Rattle.std.specs.List.{list_all, prefix_len}

pub prefix_all : (p : ℕ → Bool) (s : List ℕ) → list_all p (take (prefix_len p s) s) ≡ true
prefix_all p [] = refl
prefix_all p (b ∷ s) =
    let n = prefix_len p s in
    let ih = prefix_all p s in
    elim (p b) as (λ x. p b ≡ x → list_all p (take (if x then 1 + n else 0) (b ∷ s)) ≡ true) [
      | true ↦ λ e. (let more : 1 + n ≡ suc n = omega arith in rw (more, e, ih) refl)
      | false ↦ λ e. refl
    ] refl

pub prefix_stops : (p : ℕ → Bool) (s : List ℕ) (b : ℕ) (u : List ℕ) → drop (prefix_len p s) s ≡ b ∷ u → p b ≡ false
prefix_stops p [] b u h = cc
prefix_stops p (x ∷ s) b u h =
    let n = prefix_len p s in
    elim (cases_Bool (p x)) [
      | inl e ↦ (let more : 1 + n ≡ suc n = omega arith in let later : drop (suc n) (x ∷ s) ≡ b ∷ u = rw (e, more) at h in prefix_stops p s b u later)
      | inr e ↦ (let here : x ∷ s ≡ b ∷ u = rw e at h in let same : x ≡ b = cc in subst (λ y. p y ≡ false) same e)
    ]
