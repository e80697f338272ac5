-- Numbers by their digits.
use Rattle.std.proofs.Common.{◌≡◌, ◌<◌, ◌≤◌, ◌*◌, ◌^◌, ◌==◌, ℕ, ◌&&◌, Bool, false, true, true≢false, if◌then◌else◌, List, [], ◌∷◌, length, not, nat_lt, None, Some, unwrap_or, Result, Ok, ap, arith, lit<, refl, rules, sym}
use Rattle.std.proofs.Math.Nat.{one-le-pow}
use Rattle.std.proofs.lemmas.Str.{digit_value_digit}
use Rattle.std.specs.Char.{digit_value}
use Rattle.t1_scan.proofs.Values.{digits_value-cons}
use Rattle.std.proofs.lemmas.Bool.Decides.{nat_tests}
use Rattle.std.proofs.lemmas.Str.Parse.{IsNumeralModel, digits_value_short, numerals_by_value, parse_gives}
use Rattle.std.specs.List.{list_all}
use Rattle.std.specs.Result.{result_ok}
use Rattle.std.specs.Str.Parse.{ParsesUnsigned, digits_value}
use Rattle.clap.proofs.WalkLemmas.{both}
use Rattle.clap.specs.Walk.{is_empty}
use Rattle.t1_scan.specs.Bytes.{is_decimal_digit}
use Rattle.t1_options.specs.Values.{begins, is_number, number_in}

own : IsNumeralModel (λ ds. list_all is_decimal_digit ds ≡ true) (digits_value 10)
own = numerals_by_value _ (search rules)

-- what is parsed is the number of at most five digits
pub number_read : {E : Type 0} (text : List ℕ) (r : Result ℕ E) → ParsesUnsigned 32 10 text r → is_number text ≡ true → result_ok r ≡ number_in text
number_read [] r parses is = absurd (true≢false (sym is))
number_read (digit ∷ digits) r parses is =
    let text = digit ∷ digits in
    let plain = not (is_empty text) && not (begins 48 text) in
    let all = both (plain && nat_lt (length text) 6) (list_all is_decimal_digit text) is in
    let short : nat_lt (length text) 6 ≡ true = (both plain (nat_lt (length text) 6) all.0).1 in
    let few : length text < 6 = grind (arith, nat_tests, short) in
    let below = digits_value_short own text 5 all.1 (omega (arith, few)) in
    let read : r ≡ Ok (digits_value 10 text) = parse_gives own 32 text r parses all.1 (omega arith) (omega (arith, below)) in
    rw (read, is) refl

-- a text that is a number
is_one : (b : Bool) (v n : ℕ) → (if b then Some v else None) ≡ Some n → (b ≡ true) × (v ≡ n)
is_one true v n is = (refl, ap (λ o. unwrap_or o 0) is)
is_one false v n is = cc

-- a first digit that is no zero
first_digit : (digit : ℕ) → is_decimal_digit digit ≡ true → not (digit == 48) ≡ true → 1 ≤ digit_value digit
first_digit digit is other =
    let low : 48 ≤ digit = grind (arith, nat_tests, is) in
    let high : digit ≤ 57 = grind (arith, nat_tests, is) in
    let more : 48 < digit = grind (arith, nat_tests, low, other) in
    omega (arith, digit_value_digit digit (low, high), more)

-- a number is one from 1 to 99,999
pub number_within : (text : List ℕ) (n : ℕ) → number_in text ≡ Some n → (1 ≤ n) × (n ≤ 99999)
number_within [] n is = cc
number_within (digit ∷ digits) n is =
    let text = digit ∷ digits in
    let one = is_one (is_number text) (digits_value 10 text) n is in
    let plain = not (is_empty text) && not (begins 48 text) in
    let all = both (plain && nat_lt (length text) 6) (list_all is_decimal_digit text) one.0 in
    let short = both plain (nat_lt (length text) 6) all.0 in
    let few : length text < 6 = grind (arith, nat_tests, short.1) in
    let below : digits_value 10 text < 100000 = digits_value_short own text 5 all.1 (omega (arith, few)) in
    let other = (both (not (is_empty text)) (not (begins 48 text)) short.0).1 in
    let first = first_digit digit (both (is_decimal_digit digit) (list_all is_decimal_digit digits) all.1).0 other in
    let weight = digits_value-cons 10 digit digits in
    let some : 1 ≤ 10 ^ length digits = one-le-pow (length digits) 10 (lit< tt) in
    let least : 1 ≤ digit_value digit * 10 ^ length digits = mul_le 1 (digit_value digit) 1 (10 ^ length digits) first some in
    (omega (arith, one.1, weight, least), omega (arith, one.1, below))
  where
    mul_le : (a b c d : ℕ) → a ≤ b → c ≤ d → a * c ≤ b * d
    mul_le a b c d ab cd = grind (arith, ab, cd)
