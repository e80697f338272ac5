-- How many elements of a list pass a test.
use Rattle.std.proofs.Common.{◌≡◌, ◌+◌, ℕ, Bool, true, false, cond, List, ◌∷◌, length, sym, ap, ◌∙◌, arith}
use Rattle.std.proofs.lemmas.List.Sums.{length-filter}
use Rattle.std.specs.List.{count_by, filter}

abbrev one : Bool → ℕ
one b = cond b 1 0

kept : {X : Type 0} (x : X) (xs : List X) (b : Bool) → length (cond b (x ∷ xs) xs) ≡ one b + length xs
kept x xs true = omega arith
kept x xs false = omega arith

-- one element more
pub count_cons : {X : Type 0} (p : X → Bool) (x : X) (xs : List X) → count_by p (x ∷ xs) ≡ one (p x) + count_by p xs
count_cons p x xs =
    sym (length-filter p (x ∷ xs)) ∙ kept x (filter p xs) (p x) ∙ ap (λ (n : ℕ). one (p x) + n) (length-filter p xs)
