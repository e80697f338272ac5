-- Decimal places are the part that they are made of.
use Rattle.std.proofs.Common.{◌≡◌, ◌<◌, ◌+◌, ◌-◌, ◌*◌, ◌/◌, ◌%◌, ◌^◌, ◌==◌, ℕ, zero, suc, length, inl, inr, sym, ap, ◌∙◌, arith}
use Rattle.std.proofs.lemmas.Bool.{cases_Bool, eqb-true}
use Rattle.std.proofs.lemmas.Fmt.{decimal_digit}
use Rattle.std.proofs.lemmas.Nat.{div-add-mod', mul-mod_first}
use Rattle.std.proofs.Math.Nat.{add-mul, div-lt_iff_lt-mul, mod-eq_of_lt, mod-lt, mul_assoc, mul_comm, pow-succ'}
use Rattle.t1_reason_texts.specs.declared.decimals.Unit.TheVariants.{Area, Coordinate, Mean, Middle, OnCurve, Product, Value}
use Rattle.t1_reason_texts.specs.Decimals.{PlacesAreExact, digits_value, places}

-- One digit more before the others, which is a tenth part.
digit_more : (digit left rest one power value : ℕ) → digit * one + left ≡ rest * 10 → value * one ≡ left * power
    → (digit * power + value) * one ≡ rest * (10 * power)
digit_more digit left rest one power value division kept =
    add-mul (digit * power) value one
    ∙ ap (λ (n : ℕ). digit * power * one + n) kept
    ∙ ap (λ (n : ℕ). n + left * power)
    (mul_assoc digit power one ∙ ap (λ (n : ℕ). digit * n) (mul_comm power one) ∙ sym (mul_assoc digit one power))
    ∙ sym (add-mul (digit * one) left power)
    ∙ ap (λ (n : ℕ). n * power) division
    ∙ mul_assoc rest 10 power

-- Where so many places are enough, they are the part.
exact : (one : ℕ) → 0 < one → (n rest : ℕ) → rest < one → rest * 10 ^ n % one ≡ 0
    → digits_value (places one n rest) * one ≡ rest * 10 ^ length (places one n rest)
unfolding places
exact one some zero rest less enough =
    let alone : rest * 10 ^ 0 ≡ rest = omega arith in
    let none : rest ≡ 0 = sym (mod-eq_of_lt less) ∙ ap (λ (k : ℕ). k % one) (sym alone) ∙ enough in
    omega (arith, none)
exact one some (suc n) rest less enough =
    elim (cases_Bool (rest == 0)) [
      | inl none ↦ (let is : rest ≡ 0 = eqb-true rest 0 none in rw none (omega (arith, is)))
      | inr more ↦
          let digit = rest * 10 / one in
          let left = rest * 10 % one in
          let small : digit < 10 = (div-lt_iff_lt-mul some).1 (omega (arith, less)) in
          let still : left * 10 ^ n % one ≡ 0 =
          mul-mod_first (rest * 10) (10 ^ n) one
          ∙ ap (λ (k : ℕ). k % one) (mul_assoc rest 10 (10 ^ n) ∙ ap (λ (k : ℕ). rest * k) (sym (pow-succ' 10 n))) ∙ enough in
          let kept = exact one some n left (mod-lt (rest * 10) some) still in
          let own : 48 + digit - 48 ≡ digit = omega arith in
          rw (more, decimal_digit digit small, own)
          (digit_more digit left rest one (10 ^ length (places one n left)) (digits_value (places one n left)) (div-add-mod' (rest * 10) one) kept
          ∙ ap (λ (k : ℕ). rest * k) (sym (pow-succ' 10 (length (places one n left)))))
    ]

pub places_are_exact : PlacesAreExact
places_are_exact Coordinate rest less = exact 65536 (omega arith) 34 rest less (omega arith)
places_are_exact Middle rest less = exact 131072 (omega arith) 34 rest less (omega arith)
places_are_exact Mean rest less = exact 262144 (omega arith) 34 rest less (omega arith)
places_are_exact Value rest less = exact 1000000000 (omega arith) 34 rest less (omega arith)
places_are_exact Product rest less = exact 1000000000000000000 (omega arith) 34 rest less (omega arith)
places_are_exact OnCurve rest less = exact 4194304 (omega arith) 34 rest less (omega arith)
places_are_exact Area rest less = exact 85899345920 (omega arith) 34 rest less (omega arith)
