-- The product of two numbers, and of a difference of two and a third: each has 64 bits, and the product fits 128.
use Rattle.std.proofs.Common.{◌≡◌, ◌≤◌, ℤ, pos, negsuc, ◌-ℤ◌, ◌*ℤ◌, FitsSigned, to_z, of_z, nat_eq, int_eq, ap, sym, ◌∙◌, ℕ, w64, unsigned_abs, lit<, arith}
use Rattle.std.specs.Int.{w128}
use Rattle.std.proofs.lemmas.Int.{fits_signed_from_abs, fits_signed_mul, ints, to_z-of_z}

magnitude : (z : ℤ) → FitsSigned w64 z → unsigned_abs z ≤ 9223372036854775808
magnitude (pos n) fits = grind arith
magnitude (negsuc n) fits = grind arith

difference_within : (a b : ℤ) → FitsSigned w64 a → FitsSigned w64 b → unsigned_abs (a -ℤ b) ≤ 18446744073709551615
difference_within (pos m) (pos n) fa fb = grind arith
difference_within (pos m) (negsuc n) fa fb = grind arith
difference_within (negsuc m) (pos n) fa fb = grind arith
difference_within (negsuc m) (negsuc n) fa fb = grind arith

difference_fits : (a b : ℤ) → FitsSigned w64 a → FitsSigned w64 b → FitsSigned w128 (a -ℤ b)
difference_fits a b fa fb = fits_signed_from_abs w128 (a -ℤ b) (let h = difference_within a b fa fb in omega arith)

wide : (z : ℤ) → FitsSigned w64 z → FitsSigned w128 z
wide z fits = fits_signed_from_abs w128 z (let h = magnitude z fits in omega arith)

exact_fits : (a b t : ℤ) → FitsSigned w64 a → FitsSigned w64 b → FitsSigned w64 t → FitsSigned w128 ((a -ℤ b) *ℤ t)
exact_fits a b t fa fb ft =
    fits_signed_mul w128 (a -ℤ b) t 18446744073709551615 9223372036854775808 (difference_within a b fa fb) (magnitude t ft) (lit< tt)

pub product_fits : (d s a b t : ℤ) → d ≡ a -ℤ b → s ≡ t → FitsSigned w64 a → FitsSigned w64 b → FitsSigned w64 t →
    FitsSigned w128 (to_z w128 (of_z w128 d) *ℤ to_z w128 (of_z w128 s))
product_fits d s a b t far same fa fb ft =
    rw (far, same, to_z-of_z w128 (a -ℤ b) (difference_fits a b fa fb), to_z-of_z w128 t (wide t ft)) (exact_fits a b t fa fb ft)

pub product_is : (d s a b t : ℤ) → d ≡ a -ℤ b → s ≡ t → FitsSigned w64 a → FitsSigned w64 b → FitsSigned w64 t →
    to_z w128 (of_z w128 (to_z w128 (of_z w128 d) *ℤ to_z w128 (of_z w128 s))) ≡ (a -ℤ b) *ℤ t
product_is d s a b t far same fa fb ft =
    rw (far, same, to_z-of_z w128 (a -ℤ b) (difference_fits a b fa fb), to_z-of_z w128 t (wide t ft))
    (to_z-of_z w128 ((a -ℤ b) *ℤ t) (exact_fits a b t fa fb ft))

both_fit : (a b : ℤ) → FitsSigned w64 a → FitsSigned w64 b → FitsSigned w128 (a *ℤ b)
both_fit a b fa fb = fits_signed_mul w128 a b 9223372036854775808 9223372036854775808 (magnitude a fa) (magnitude b fb) (lit< tt)

pub pair_fits : (d s a b : ℤ) → d ≡ a → s ≡ b → FitsSigned w64 a → FitsSigned w64 b → FitsSigned w128 (to_z w128 (of_z w128 d) *ℤ to_z w128 (of_z w128 s))
pair_fits d s a b first second fa fb =
    rw (first, second, to_z-of_z w128 a (wide a fa), to_z-of_z w128 b (wide b fb)) (both_fit a b fa fb)

pub pair_is : (d s a b : ℤ) → d ≡ a → s ≡ b → FitsSigned w64 a → FitsSigned w64 b
    → to_z w128 (of_z w128 (to_z w128 (of_z w128 d) *ℤ to_z w128 (of_z w128 s))) ≡ a *ℤ b
pair_is d s a b first second fa fb =
    rw (first, second, to_z-of_z w128 a (wide a fa), to_z-of_z w128 b (wide b fb)) (to_z-of_z w128 (a *ℤ b) (both_fit a b fa fb))

same_test : (m n : ℕ) (a b : ℤ) → (m ≡ n → a ≡ b) → (a ≡ b → m ≡ n) → nat_eq m n ≡ int_eq a b
same_test m n a b back forth = grind (arith, ints)

-- Two numbers are equal where their bits are.
pub equal_by_bits : (a b : ℤ) → FitsSigned w128 a → FitsSigned w128 b → nat_eq (of_z w128 a) (of_z w128 b) ≡ int_eq a b
equal_by_bits a b fa fb =
    same_test (of_z w128 a) (of_z w128 b) a b
    (λ e. sym (to_z-of_z w128 a fa) ∙ ap (to_z w128) e ∙ to_z-of_z w128 b fb) (ap (of_z w128))
