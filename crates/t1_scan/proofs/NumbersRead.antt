-- A number in plain form has its value.
use Rattle.std.proofs.Common.{◌≡◌, ◌+◌, ◌*◌, ◌==◌, ℕ, pos, neg_ℤ, Bool, true, false, ◌&&◌, not, nat_le, nat_lt, Option, Some, None, List, [], ◌∷◌, ◌++◌, length, drop, refl, ap, ◌∙◌, arith}
use Rattle.std.proofs.Math.Seq.{drop-append_seam, take-append_seam}
use Rattle.std.proofs.lemmas.Bool.{and_parts, false≢true}
use Rattle.std.proofs.lemmas.Bool.Decides.{nat_tests}
use Rattle.std.specs.List.{list_all, prefix_len}
use Rattle.std.specs.Option.{option_map, option_or}
use Rattle.std.specs.Str.Parse.{digits_value}
use Rattle.t1_scan.specs.Bytes.{is_decimal_digit}
use Rattle.t1_scan.specs.Numbers.{whole_part, after_whole, is_fraction, scaled, value_of, magnitude_of, decimal_of, are_in_base, radix_of}
use Rattle.t1_scan.specs.Laws.{DecimalValue, RadixValue}
use Rattle.t1_scan.specs.Spelling.{Sign, no_sign, plus, minus, sign_text, signed, fraction_text, decimals_of, is_decimal, is_radix}

pub not_true : (b : Bool) → not b ≡ true → b ≡ false
not_true false h = refl
not_true true h = absurd (false≢true h)

-- where a run of bytes that pass a test ends
unfoldable pub ends_test : (ℕ → Bool) → List ℕ → Bool
ends_test p [] = true
ends_test p (b ∷ s) = not (p b)

pub prefix_is : (p : ℕ → Bool) (run s : List ℕ) → list_all p run ≡ true → ends_test p s ≡ true → prefix_len p (run ++ s) ≡ length run
unfolding ends_test
prefix_is p [] [] h e = refl
prefix_is p [] (b ∷ s) h e =
    let no : p b ≡ false = not_true (p b) e in rw no refl
prefix_is p (b ∷ run) s h e =
    let parts = and_parts (p b) (list_all p run) h in
    rw (parts.0, prefix_is p run s parts.1 e) (omega arith)

-- the digits before a point, and what follows them
whole_is : (whole s : List ℕ) → list_all is_decimal_digit whole ≡ true → ends_test is_decimal_digit s ≡ true → whole_part (whole ++ s) ≡ whole
whole_is whole s h e = rw (prefix_is is_decimal_digit whole s h e) (take-append_seam whole s)

after_is : (whole s : List ℕ) → list_all is_decimal_digit whole ≡ true → ends_test is_decimal_digit s ≡ true → after_whole (whole ++ s) ≡ s
after_is whole s h e = rw (prefix_is is_decimal_digit whole s h e) (drop-append_seam whole s)

fraction_ends : (fraction : Option (List ℕ)) → ends_test is_decimal_digit (fraction_text fraction) ≡ true
unfolding ends_test
fraction_ends None = refl
fraction_ends (Some decimals) = refl

fraction_is : (fraction : Option (List ℕ)) → list_all is_decimal_digit (decimals_of fraction) ≡ true → is_fraction (fraction_text fraction) ≡ true
fraction_is None h = refl
fraction_is (Some decimals) h = h

decimals_are : (fraction : Option (List ℕ)) → drop 1 (fraction_text fraction) ≡ decimals_of fraction
decimals_are None = refl
decimals_are (Some decimals) = refl

-- what `is_decimal` says
pub record IsDecimal (whole : List ℕ) (fraction : Option (List ℕ)) : Type 0 where
  pub front : list_all is_decimal_digit whole ≡ true
  pub decimals : list_all is_decimal_digit (decimals_of fraction) ≡ true
  pub some : not (length whole + length (decimals_of fraction) == 0) ≡ true
  pub below : nat_lt (digits_value 10 whole) 1000000000 ≡ true

pub decimal_parts : (whole : List ℕ) (fraction : Option (List ℕ)) → is_decimal whole fraction ≡ true → IsDecimal whole fraction
decimal_parts whole fraction h =
    let a = list_all is_decimal_digit whole in
    let b = list_all is_decimal_digit (decimals_of fraction) in
    let c = not (length whole + length (decimals_of fraction) == 0) in
    let d = nat_lt (digits_value 10 whole) 1000000000 in
    let p = and_parts (a && b && c) d h in
    let q = and_parts (a && b) c p.0 in
    let r = and_parts a b q.0 in
    record { front = r.0; decimals = r.1; some = q.1; below = p.1 }

magnitude_is : (whole : List ℕ) (fraction : Option (List ℕ)) → IsDecimal whole fraction → magnitude_of (whole ++ fraction_text fraction)
    ≡ Some (scaled whole (decimals_of fraction))
unfolding magnitude_of value_of
magnitude_is whole fraction h =
    let ends = fraction_ends fraction in
    rw (
      after_is whole (fraction_text fraction) h.front ends,
      whole_is whole (fraction_text fraction) h.front ends,
      decimals_are fraction,
      fraction_is fraction
          h.decimals,
      h.some,
      h.below,
    ) refl

-- a byte that is no sign
unsigned : (b : ℕ) (s : List ℕ) → (b == 45) ≡ false → (b == 43) ≡ false → decimal_of (b ∷ s) ≡ option_map pos (magnitude_of (b ∷ s))
unfolding decimal_of
unsigned b s h k = rw (h, k) refl

decimal_unsigned : (whole : List ℕ) (fraction : Option (List ℕ)) → IsDecimal whole fraction → decimal_of (whole ++ fraction_text fraction) ≡ option_map pos
    (magnitude_of (whole ++ fraction_text fraction))
decimal_unsigned [] None h = absurd (false≢true h.some)
decimal_unsigned [] (Some decimals) h = unsigned 46 decimals refl refl
decimal_unsigned (d ∷ whole) fraction h =
    let digit = (and_parts (is_decimal_digit d) (list_all is_decimal_digit whole) h.front).0 in
    let hyphen : (d == 45) ≡ false = grind (arith, nat_tests) in
    let cross : (d == 43) ≡ false = grind (arith, nat_tests) in
    unsigned d (whole ++ fraction_text fraction) hyphen cross

decimal_is : (sign : Sign) (whole : List ℕ) (fraction : Option (List ℕ)) → IsDecimal whole fraction
    → decimal_of (sign_text sign ++ (whole ++ fraction_text fraction)) ≡ Some (signed sign (scaled whole (decimals_of fraction)))
unfolding decimal_of
decimal_is no_sign whole fraction h =
    decimal_unsigned whole fraction h ∙ ap (option_map pos) (magnitude_is whole fraction h)
decimal_is plus whole fraction h = ap (option_map pos) (magnitude_is whole fraction h)
decimal_is minus whole fraction h = ap (option_map (λ n. neg_ℤ (pos n))) (magnitude_is whole fraction h)

pub decimal_value : DecimalValue
decimal_value sign whole fraction h =
    let e = decimal_is sign whole fraction (decimal_parts whole fraction h) in
    ap (λ o. option_or o (radix_of (sign_text sign ++ (whole ++ fraction_text fraction)))) e

-- what `is_radix` says
pub record IsRadix (base digits : List ℕ) : Type 0 where
  pub front : list_all is_decimal_digit base ≡ true
  pub some_base : not (length base == 0) ≡ true
  pub low : nat_le 2 (digits_value 10 base) ≡ true
  pub high : nat_le (digits_value 10 base) 36 ≡ true
  pub some : not (length digits == 0) ≡ true
  pub behind : are_in_base (digits_value 10 base) digits ≡ true
  pub below : nat_lt (digits_value (digits_value 10 base) digits) 1000000000 ≡ true

pub radix_parts : (base digits : List ℕ) → is_radix base digits ≡ true → IsRadix base digits
radix_parts base digits h =
    let v = digits_value 10 base in
    let a = list_all is_decimal_digit base in
    let b = not (length base == 0) in
    let c = nat_le 2 v in
    let d = nat_le v 36 in
    let e = not (length digits == 0) in
    let f = are_in_base v digits in
    let g = nat_lt (digits_value v digits) 1000000000 in
    let p6 = and_parts (a && b && c && d && e && f) g h in
    let p5 = and_parts (a && b && c && d && e) f p6.0 in
    let p4 = and_parts (a && b && c && d) e p5.0 in
    let p3 = and_parts (a && b && c) d p4.0 in
    let p2 = and_parts (a && b) c p3.0 in
    let p1 = and_parts a b p2.0 in
    record { front = p1.0; some_base = p1.1; low = p2.1; high = p3.1; some = p4.1; behind = p5.1; below = p6.1 }

number_sign_ends : (digits : List ℕ) → ends_test is_decimal_digit (35 ∷ digits) ≡ true
unfolding ends_test
number_sign_ends digits = refl

-- a `#` is no fraction
no_magnitude : (base digits : List ℕ) → list_all is_decimal_digit base ≡ true → magnitude_of (base ++ (35 ∷ digits)) ≡ None
unfolding magnitude_of
no_magnitude base digits h = rw (after_is base (35 ∷ digits) h (number_sign_ends digits)) refl

no_decimal : (base digits : List ℕ) → IsRadix base digits → decimal_of (base ++ (35 ∷ digits)) ≡ None
no_decimal [] digits h = absurd (false≢true h.some_base)
no_decimal (d ∷ base) digits h =
    let digit = (and_parts (is_decimal_digit d) (list_all is_decimal_digit base) h.front).0 in
    let hyphen : (d == 45) ≡ false = grind (arith, nat_tests) in
    let cross : (d == 43) ≡ false = grind (arith, nat_tests) in
    unsigned d (base ++ (35 ∷ digits)) hyphen cross ∙ ap (option_map pos) (no_magnitude (d ∷ base) digits h.front)

radix_is : (base digits : List ℕ) → IsRadix base digits → radix_of (base ++ (35 ∷ digits))
    ≡ Some (pos (digits_value (digits_value 10 base) digits * 1000000000))
unfolding radix_of
radix_is base digits h =
    let ends = number_sign_ends digits in
    rw (after_is base (35 ∷ digits) h.front ends, whole_is base (35 ∷ digits) h.front ends, h.some_base, h.low, h.high, h.some, h.behind, h.below) refl

pub radix_value : RadixValue
radix_value base digits h =
    let p = radix_parts base digits h in
    ap (λ o. option_or o (radix_of (base ++ (35 ∷ digits)))) (no_decimal base digits p) ∙ radix_is base digits p
