-- A number in plain form is a number for PostScript.
use Rattle.std.proofs.Common.{◌≡◌, ◌+◌, ◌==◌, ℕ, ℤ, true, false, ◌||◌, not, nat_le, nat_lt, Option, Some, None, List, [], ◌∷◌, ◌++◌, length, refl, ap, subst, ◌∙◌, arith}
use Rattle.std.proofs.Math.Bool.{or-true}
use Rattle.std.proofs.Math.Seq.{drop-append_seam, take-append_seam, take-length, drop-length}
use Rattle.std.proofs.lemmas.Bool.{and_parts, false≢true}
use Rattle.std.proofs.lemmas.Bool.Decides.{nat_tests}
use Rattle.std.specs.Char.{digit_value}
use Rattle.std.specs.List.{list_all, prefix_len}
use Rattle.std.specs.Str.Parse.{digits_value}
use Rattle.t1_scan.specs.declared.token.Kind.TheVariants.{Number}
use Rattle.t1_scan.specs.Bytes.{is_decimal_digit}
use Rattle.t1_scan.specs.Numbers.{whole_part, after_whole, are_in_base}
use Rattle.t1_scan.specs.Spelling.{Sign, no_sign, plus, minus, sign_text, fraction_text, Plain, name, word, decimal, radix, single, double_open, double_close, parenthesized, angled, braced, bracketed, spelled, meant, is_plain}
use Rattle.t1_scan.proofs.NumbersRead.{ends_test, prefix_is, IsDecimal, decimal_parts, IsRadix, radix_parts}
use Rattle.t1_scan.proofs.TokensFound.{finds_token}
use Rattle.t1_words.specs.Numbers.{unsigned, is_unsigned_number, is_radix_digit, is_radix_number, is_number}
use Rattle.t1_words.specs.Laws.{NumbersAreNumbers}

whole_is : (whole s : List ℕ) → list_all is_decimal_digit whole ≡ true → ends_test is_decimal_digit s ≡ true → whole_part (whole ++ s) ≡ whole
whole_is whole s h e = rw (prefix_is is_decimal_digit whole s h e) (take-append_seam whole s)

after_is : (whole s : List ℕ) → list_all is_decimal_digit whole ≡ true → ends_test is_decimal_digit s ≡ true → after_whole (whole ++ s) ≡ s
after_is whole s h e = rw (prefix_is is_decimal_digit whole s h e) (drop-append_seam whole s)

-- Digits alone.
all_len : (s : List ℕ) → list_all is_decimal_digit s ≡ true → prefix_len is_decimal_digit s ≡ length s
all_len [] h = refl
all_len (b ∷ s) h =
    let p = and_parts (is_decimal_digit b) (list_all is_decimal_digit s) h in
    rw (p.0, all_len s p.1) (omega arith)

all_whole : (s : List ℕ) → list_all is_decimal_digit s ≡ true → whole_part s ≡ s
all_whole s h = rw (all_len s h) (take-length s)

all_after : (s : List ℕ) → list_all is_decimal_digit s ≡ true → after_whole s ≡ []
all_after s h = rw (all_len s h) (drop-length s)

either : (a b : ℕ) → not (a + b == 0) ≡ true → (not (a == 0) || not (b == 0)) ≡ true
either a b h = grind (arith, nat_tests)

unsigned_is : (whole : List ℕ) (fraction : Option (List ℕ)) → IsDecimal whole fraction → is_unsigned_number (whole ++ fraction_text fraction) ≡ true
unfolding ends_test
unsigned_is whole None h =
    rw (after_is whole [] h.front refl, whole_is whole [] h.front refl, either (length whole) 0 h.some) refl
unsigned_is whole (Some decimals) h =
    rw (
      after_is whole (46 ∷ decimals) h.front refl,
      whole_is whole (46 ∷ decimals) h.front refl,
      all_whole decimals h.decimals,
      all_after decimals h.decimals,
      either (length whole) (length decimals) h.some,
    ) refl

no_sign_is : (b : ℕ) (s : List ℕ) → (b == 43 || b == 45) ≡ false → unsigned (b ∷ s) ≡ b ∷ s
no_sign_is b s h = rw h refl

without_sign : (sign : Sign) (whole : List ℕ) (fraction : Option (List ℕ)) → IsDecimal whole fraction
    → unsigned (sign_text sign ++ (whole ++ fraction_text fraction)) ≡ whole ++ fraction_text fraction
without_sign plus whole fraction h = refl
without_sign minus whole fraction h = refl
without_sign no_sign [] None h = absurd (false≢true h.some)
without_sign no_sign [] (Some decimals) h = refl
without_sign no_sign (d ∷ whole) fraction h =
    let digit = (and_parts (is_decimal_digit d) (list_all is_decimal_digit whole) h.front).0 in
    let other : (d == 43 || d == 45) ≡ false = grind (arith, nat_tests) in
    no_sign_is d (whole ++ fraction_text fraction) other

decimal_is : (sign : Sign) (whole : List ℕ) (fraction : Option (List ℕ)) → IsDecimal whole fraction
    → is_number (sign_text sign ++ (whole ++ fraction_text fraction)) ≡ true
decimal_is sign whole fraction h =
    let run = sign_text sign ++ (whole ++ fraction_text fraction) in
    let e : is_unsigned_number (unsigned run) ≡ true =
    ap is_unsigned_number (without_sign sign whole fraction h) ∙ unsigned_is whole fraction h in
    ap (λ b. b || is_radix_number run) e

radix_digit : (c base : ℕ) → nat_le base 36 ≡ true → nat_lt (digit_value c) base ≡ true → is_radix_digit c ≡ true
radix_digit c base h k = grind (arith, nat_tests)

radix_digits : (base : ℕ) (s : List ℕ) → nat_le base 36 ≡ true → are_in_base base s ≡ true → list_all is_radix_digit s ≡ true
radix_digits base [] h k = refl
radix_digits base (c ∷ s) h k =
    let p = and_parts (nat_lt (digit_value c) base) (are_in_base base s) k in
    rw (radix_digit c base h p.0, radix_digits base s h p.1) refl

radix_is : (base digits : List ℕ) → IsRadix base digits → is_number (base ++ (35 ∷ digits)) ≡ true
unfolding ends_test
radix_is base digits h =
    let run = base ++ (35 ∷ digits) in
    let e : is_radix_number run ≡ true =
    rw (
      after_is base (35 ∷ digits) h.front refl,
      whole_is base (35 ∷ digits) h.front refl,
      h.some_base,
      h.some,
      radix_digits (digits_value 10 base) digits h.high h.behind,
    ) refl in
    ap (λ b. is_unsigned_number (unsigned run) || b) e ∙ or-true (is_unsigned_number (unsigned run))

-- Of a token in its plain form.
plain_is : (t : Plain) (v : ℤ) → meant t ≡ Number v → is_plain t ≡ true → is_number (spelled t) ≡ true
plain_is (name run) v e h = cc
plain_is (word run) v e h = cc
plain_is (decimal sign whole fraction) v e h = decimal_is sign whole fraction (decimal_parts whole fraction h)
plain_is (radix base digits) v e h = radix_is base digits (radix_parts base digits h)
plain_is (single b) v e h = cc
plain_is double_open v e h = cc
plain_is double_close v e h = cc
plain_is (parenthesized _) v e h = cc
plain_is (angled bytes) v e h = cc
plain_is (braced body) v e h = cc
plain_is (bracketed body) v e h = cc

pub numbers_are_numbers : NumbersAreNumbers
numbers_are_numbers s found v h k =
    let x = finds_token s found h in
    subst (λ t. is_number t ≡ true) x.text (plain_is x.token v (x.kind ∙ k) x.begins.readable.plain)
