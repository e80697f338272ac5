-- A list whose items are mapped one after another, in place.
use Rattle.std.proofs.Common.{◌≡◌, ℕ, zero, suc, ◌≤◌, ◌<◌, List, [], ◌∷◌, length, map, set, get_or, refl, ap, arith}

-- The first so many items are mapped.
abbrev pub mapped_to : {X : Type 0} → (X → X) → ℕ → List X → List X
mapped_to f zero xs = xs
mapped_to f (suc n) [] = []
mapped_to f (suc n) (x ∷ xs) = f x ∷ mapped_to f n xs

pub mapped_length : {X : Type 0} (f : X → X) (n : ℕ) (xs : List X) → length (mapped_to f n xs) ≡ length xs
mapped_length f zero xs = refl
mapped_length f (suc n) [] = refl
mapped_length f (suc n) (x ∷ xs) = ap suc (mapped_length f n xs)

-- One more is mapped, which is still as it was.
pub mapped_more : {X : Type 0} (f : X → X) (n : ℕ) (xs : List X) (d : X) → n < length xs
    → set (mapped_to f n xs) n (f (get_or (mapped_to f n xs) n d)) ≡ mapped_to f (suc n) xs
mapped_more f n [] d fits = absurd (omega (arith, fits))
mapped_more f zero (x ∷ xs) d fits = refl
mapped_more f (suc n) (x ∷ xs) d fits = ap (λ more. f x ∷ more) (mapped_more f n xs d (omega (arith, fits)))

-- All are, at the end.
pub mapped_all : {X : Type 0} (f : X → X) (n : ℕ) (xs : List X) → length xs ≤ n → mapped_to f n xs ≡ map f xs
mapped_all f zero [] done = refl
mapped_all f zero (x ∷ xs) done = absurd (omega (arith, done))
mapped_all f (suc n) [] done = refl
mapped_all f (suc n) (x ∷ xs) done = ap (λ more. f x ∷ more) (mapped_all f n xs (omega (arith, done)))
