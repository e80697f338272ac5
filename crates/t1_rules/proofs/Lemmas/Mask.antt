-- Sets of rules: the bits that the operations on a number change, and the least member above a number.
use Rattle.std.proofs.Common.{◌≡◌, ℕ, zero, suc, ◌+◌, ◌*◌, ◌/◌, ◌%◌, ◌^◌, ◌<◌, ◌≤◌, ◌-◌, true, false, ◌||◌, ◌&&◌, not, nat_eq, refl, sym, ◌∙◌, ap, inl, inr, bit_or, bit_and, max, arith, ◌⊎◌, Option, Some, None, IfSome, IfNone, MatchOption}
use Rattle.std.specs.Int.{bit_at, bit_not, trailing_zeros, w128}
use Rattle.std.proofs.lemmas.Nat.{pow-add}
use Rattle.std.proofs.lemmas.Nat.Bits.{bit_at_above, bit_at_and, bit_at_clear_other, bit_at_clear_same, bit_at_or, bit_at-lt, bit_at-zero, bit_at_set_same, bit_at_set_other, bit_at-trailing_zeros}
use Rattle.std.proofs.Math.Nat.{div-div-eq-div-mul, div-le_self, zero-min}
use Rattle.std.proofs.lemmas.Bool.Decides.{eqb_tells}
use Rattle.std.proofs.lemmas.Bool.{cases_lt}
use Rattle.std.proofs.Math.Bool.{and-false, and-true}
use Rattle.t1_rules.specs.declared.mask.Mask.{Mask}
use Rattle.t1_rules.specs.declared.rule.Rule.{Rule}
use Rattle.t1_rules.specs.Book.{number_of, last_number}
use Rattle.t1_rules.specs.Mask.{HasNoneAbove, IsLeastAbove}

max_bit : (x y : ℕ) → x < 2 → y < 2 → nat_eq (max x y) 1 ≡ (nat_eq x 1 || nat_eq y 1)
max_bit zero zero x2 y2 = refl
max_bit zero (suc zero) x2 y2 = refl
max_bit (suc zero) zero x2 y2 = refl
max_bit (suc zero) (suc zero) x2 y2 = refl
max_bit (suc (suc x)) y x2 y2 = absurd (omega arith)
max_bit x (suc (suc y)) x2 y2 = absurd (omega arith)

-- Either set's members.
pub joined_bits : (a b n : ℕ) → nat_eq (bit_at (bit_or a b) n) 1 ≡ (nat_eq (bit_at a n) 1 || nat_eq (bit_at b n) 1)
joined_bits a b n = rw (bit_at_or a b n) (max_bit (bit_at a n) (bit_at b n) (bit_at-lt a n) (bit_at-lt b n))

-- One member more.
pub set_bits : (b k : ℕ) → k < 128 → (n : ℕ) →
    nat_eq (bit_at (bit_or b (1 * 2 ^ k % 340282366920938463463374607431768211456)) n) 1 ≡ (nat_eq k n || nat_eq (bit_at b n) 1)
set_bits b k within n = elim (eqb_tells k n) [
  | inl same ↦ rw (same.0, sym same.1, bit_at_set_same w128 b k within) refl
  | inr other ↦ rw (other.0, bit_at_set_other w128 b k within n (λ e. other.1 (sym e))) refl
]

-- One member less.
pub cleared_bits : (b k : ℕ) → b < 2 ^ 128 → k < 128 → (n : ℕ) →
    nat_eq (bit_at (bit_and b (bit_not w128 (1 * 2 ^ k % 340282366920938463463374607431768211456))) n) 1 ≡ (nat_eq (bit_at b n) 1 && not (nat_eq k n))
cleared_bits b k fits within n = elim (eqb_tells k n) [
  | inl same ↦ rw (same.0, sym same.1, bit_at_clear_same w128 b k within, and-false (nat_eq (bit_at b k) 1)) refl
  | inr other ↦ elim (cases_lt n 128) [
    | inl low ↦ rw (other.0, bit_at_clear_other w128 b k within n low (λ e. other.1 (sym e)), and-true (nat_eq (bit_at b n) 1)) refl
    | inr high ↦ rw (
      other.0,
      bit_at_and b (bit_not w128 (1 * 2 ^ k % 340282366920938463463374607431768211456)) n,
      bit_at_above b 128 n fits high,
      zero-min
          (bit_at (bit_not w128 (1 * 2 ^ k % 340282366920938463463374607431768211456)) n),
    ) refl
  ]
]

-- The bits from one place on, counted from there.
pub bits_from : (b s i : ℕ) → bit_at (b / 2 ^ s) i ≡ bit_at b (s + i)
bits_from b s i = rw (div-div-eq-div-mul b (2 ^ s) (2 ^ i), sym (pow-add 2 s i)) refl

-- Where no bit is set from a place on.
pub none_from : (b s : ℕ) → b / 2 ^ s ≡ 0 → (n : ℕ) → s ≤ n → nat_eq (bit_at b n) 1 ≡ false
none_from b s none n from =
    let place : s + (n - s) ≡ n = omega arith in
    let bit : bit_at b n ≡ 0 = ap (bit_at b) (sym place) ∙ sym (bits_from b s (n - s)) ∙ ap (λ m. bit_at m (n - s)) none ∙ bit_at-zero (n - s) in
    ap (λ m. nat_eq m 1) bit

-- The least place from one on whose bit is set.
pub first_from : (b s : ℕ) → 0 < b / 2 ^ s → b / 2 ^ s < 2 ^ 128 → nat_eq (bit_at b (s + trailing_zeros w128 (b / 2 ^ s))) 1 ≡ true
first_from b s some fits =
    ap (λ m. nat_eq m 1) (sym (bits_from b s (trailing_zeros w128 (b / 2 ^ s))) ∙ (bit_at-trailing_zeros w128 (b / 2 ^ s) some fits).1)

pub none_before : (b s : ℕ) → 0 < b / 2 ^ s → b / 2 ^ s < 2 ^ 128 → (n : ℕ) → s ≤ n → n < s + trailing_zeros w128 (b / 2 ^ s) → nat_eq (bit_at b n) 1 ≡ false
none_before b s some fits n from before =
    let place : s + (n - s) ≡ n = omega arith in
    let near : n - s < trailing_zeros w128 (b / 2 ^ s) = omega arith in
    let bit : bit_at b n ≡ 0 = ap (bit_at b) (sym place) ∙ sym (bits_from b s (n - s)) ∙ (bit_at-trailing_zeros w128 (b / 2 ^ s) some fits).2 (n - s) near in
    ap (λ m. nat_eq m 1) bit

pub found_above : (mask : Mask) (floor : ℕ) (found : Option Rule) → mask.bits < 2 ^ 128 → (mask.bits / 2 ^ (floor + 1) ≡ 0 → ⊥) →
    IfSome found (λ rule. number_of rule ≡ floor + 1 + trailing_zeros w128 (mask.bits / 2 ^ (floor + 1))) →
    IfNone found ((floor + 1 + trailing_zeros w128 (mask.bits / 2 ^ (floor + 1)) ≡ 0)
    ⊎ (last_number < floor + 1 + trailing_zeros w128 (mask.bits / 2 ^ (floor + 1)))) →
    MatchOption found (HasNoneAbove mask floor) (λ rule. IsLeastAbove mask floor rule)
found_above mask floor None fits some is none =
    let less = div-le_self mask.bits (2 ^ (floor + 1)) in
    let positive : 0 < mask.bits / 2 ^ (floor + 1) = omega arith in
    let within : mask.bits / 2 ^ (floor + 1) < 2 ^ 128 = omega arith in
    λ n above last. none_before mask.bits (floor + 1) positive within n (omega arith) (elim none [ inl e ↦ omega arith | inr past ↦ omega arith ])
found_above mask floor (Some rule) fits some is none =
    let less = div-le_self mask.bits (2 ^ (floor + 1)) in
    let positive : 0 < mask.bits / 2 ^ (floor + 1) = omega arith in
    let within : mask.bits / 2 ^ (floor + 1) < 2 ^ 128 = omega arith in
    record {
      is_in = rw is (first_from mask.bits (floor + 1) positive within);
      greater = omega arith;
      least = λ n above before. none_before mask.bits (floor + 1) positive within n (omega arith) (omega arith);
    }
