-- A number that is read digit by digit.
use Rattle.std.proofs.Common.{◌≡◌, ◌<◌, ◌≤◌, ◌+◌, ◌-◌, ◌*◌, ℕ, true, true≢false, List, length, get_or, take, inl, inr, sym, ◌∙◌, ap, arith}
use Rattle.std.proofs.lemmas.Bool.{cases_Bool}
use Rattle.std.proofs.lemmas.Bool.Decides.{nat_tests}
use Rattle.std.proofs.lemmas.Int.Digits.{digits_value_more}
use Rattle.std.proofs.lemmas.List.Folds.{list_all_at}
use Rattle.std.proofs.lemmas.Str.{digit_value_digit}
use Rattle.std.proofs.lemmas.Str.Parse.{digits_value-take-le}
use Rattle.std.specs.Char.{digit_value}
use Rattle.std.specs.List.{list_all}
use Rattle.std.specs.Str.Parse.{digits_value}
use Rattle.t1_scan.specs.Bytes.{is_decimal_digit}

pub digit_at : (digits : List ℕ) (i : ℕ) → list_all is_decimal_digit digits ≡ true → i < length digits → (48 ≤ get_or digits i 0) × (get_or digits i 0 ≤ 57)
digit_at digits i all within = elim (cases_Bool (is_decimal_digit (get_or digits i 0))) [
  | inl is ↦ (grind (arith, nat_tests, is), grind (arith, nat_tests, is))
  | inr other ↦ absurd (true≢false (sym all ∙ list_all_at is_decimal_digit digits i 0 within other))
]

pub digit_more : (digits : List ℕ) (i : ℕ) → list_all is_decimal_digit digits ≡ true → i < length digits
    → digits_value 10 (take (i + 1) digits) ≡ digits_value 10 (take i digits) * 10 + (get_or digits i 0 - 48)
digit_more digits i all within =
    let is = digit_at digits i all within in
    let value : digit_value (get_or digits i 0) + 48 ≡ get_or digits i 0 = digit_value_digit (get_or digits i 0) is in
    digits_value_more 10 digits i within ∙ ap (λ n. digits_value 10 (take i digits) * 10 + n) (let n : digit_value (get_or digits i 0) ≡ get_or digits i 0 - 48 = omega (arith, value) in n)

pub most : (digits : List ℕ) (i : ℕ) → digits_value 10 (take i digits) ≤ digits_value 10 digits
most digits i = digits_value-take-le 10 digits i (omega arith)
