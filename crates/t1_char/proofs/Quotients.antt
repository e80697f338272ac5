-- Quotients, cut towards zero.
use Rattle.std.proofs.Common.{◌≡◌, ◌≢◌, ℕ, ℤ, zero, suc, pos, negsuc, neg_ℤ, ◌≤ℤ◌, ◌<◌, ◌%◌, Bool, true, false, cond, refl, ap, ◌∙◌, arith}
use Rattle.std.proofs.lemmas.Bool.Decides.{Decides-int_eq}
use Rattle.std.proofs.lemmas.Int.{ints, clamps, quot-rem, rem_below}
use Rattle.std.specs.Ordering.{int_eq}
use Rattle.std.specs.Prelude.{int_rem, unsigned_abs}
use Rattle.t1_char.specs.Numbers.{units, clamped, cut_quotient, quotient}
use Rattle.t1_char.specs.Laws.Numbers.{IsKept, NoQuotientIsZero, QuotientsAreCut, QuotientsAreKept}

some_divisor : (b : ℤ) → b ≢ pos 0 → 0 < unsigned_abs b
some_divisor (pos zero) some = absurd (some refl)
some_divisor (pos (suc n)) some = omega arith
some_divisor (negsuc n) some = omega arith

-- What is left isn't on the other side of zero.
rest_positive : (a b : ℤ) → pos 0 ≤ℤ a → pos 0 ≤ℤ int_rem a b
rest_positive (pos a) b more = omega (arith, ints)
rest_positive (negsuc a) b more = absurd (omega (arith, ints))

neg_below : (n : ℕ) → neg_ℤ (pos n) ≤ℤ pos 0
neg_below zero = omega (arith, ints)
neg_below (suc n) = omega (arith, ints)

rest_negative : (a b : ℤ) → a ≤ℤ pos 0 → int_rem a b ≤ℤ pos 0
rest_negative (pos zero) b less = omega (arith, ints)
rest_negative (pos (suc a)) b less = absurd (omega (arith, ints))
rest_negative (negsuc a) b less = neg_below (suc a % unsigned_abs b)

pub quotients_are_cut : QuotientsAreCut
quotients_are_cut a b some = record {
  rest = int_rem (units a) b;
  whole = quot-rem (units a) b;
  small = rem_below (units a) b (some_divisor b some);
  positive = rest_positive (units a) b;
  negative = rest_negative (units a) b;
}

is_kept : (q : ℤ) → IsKept q (clamped q)
is_kept q = record {
  within = λ low high. grind (arith, ints, clamps, low, high);
  above = λ past. grind (arith, ints, clamps, past);
  below = λ past. grind (arith, ints, clamps, past);
}

no_zero : (b : ℤ) → b ≢ pos 0 → int_eq b (pos 0) ≡ false
no_zero b some = by_test (int_eq b (pos 0)) refl
  where
    by_test : (t : Bool) → int_eq b (pos 0) ≡ t → t ≡ false
    by_test true is = absurd (some ((Decides-int_eq b (pos 0)).0 is))
    by_test false is = refl

pub quotients_are_kept : QuotientsAreKept
quotients_are_kept a b some =
    let is : quotient a b ≡ clamped (cut_quotient a b) = ap (λ t. cond t (pos 0) (clamped (cut_quotient a b))) (no_zero b some) in
    let kept = is_kept (cut_quotient a b) in
    record {
      within = λ low high. is ∙ kept.within low high;
      above = λ past. is ∙ kept.above past;
      below = λ past. is ∙ kept.below past;
    }

pub no_quotient_is_zero : NoQuotientIsZero
no_quotient_is_zero a = refl
