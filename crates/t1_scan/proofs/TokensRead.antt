-- A token in plain form is read as just this token.
use Rattle.std.proofs.Common.{◌≡◌, ◌+◌, ◌==◌, ◌<◌, ◌≤◌, ℕ, ℤ, Bool, true, false, ◌&&◌, ◌||◌, not, nat_lt, Option, Some, None, Result, Ok, Err, List, [], ◌∷◌, ◌++◌, length, slice_index, refl, ap, subst, ◌∙◌, inl, inr, is_none, arith, length-append}
use Rattle.std.proofs.Math.Seq.{drop-append_seam, take-append_seam}
use Rattle.std.proofs.lemmas.Bool.{and_parts, or_cases, false≢true}
use Rattle.std.proofs.lemmas.Bool.Decides.{nat_tests}
use Rattle.std.proofs.lemmas.List.Folds.{list_all-append}
use Rattle.std.specs.List.{list_all}
use Rattle.std.specs.Char.{digit_value}
use Rattle.std.specs.Str.Parse.{digits_value}
use Rattle.t1_scan.specs.declared.error.ScanError.{ScanError}
use Rattle.t1_scan.specs.declared.error.ScanError.TheVariants.{Unclosed}
use Rattle.t1_scan.specs.declared.token.Kind.{Kind}
use Rattle.t1_scan.specs.declared.token.Kind.TheVariants.{Name, Word, Text, Proc, Array}
use Rattle.t1_scan.specs.Bytes.{is_blank, is_regular, is_decimal_digit}
use Rattle.t1_scan.specs.Lengths.{further, blank_len, run_len, angle_len, part_len, begins_with_close, token_len}
use Rattle.t1_scan.specs.Numbers.{magnitude_of, decimal_of, are_in_base, radix_of, number_of}
use Rattle.t1_scan.specs.Tokens.{Found, number_or_word, kind_of, cut, token_of}
use Rattle.t1_scan.specs.Spelling.{Letters, letters_text, are_letters, is_not_angle, are_hexadecimal, Body, body_text, is_body, body_depth, Sign, no_sign, plus, minus, sign_text, fraction_text, decimals_of, Plain, name, word, decimal, radix, single, double_open, double_close, parenthesized, angled, braced, bracketed, spelled, meant, is_decimal, is_radix, is_plain}
use Rattle.t1_scan.specs.Laws.{TooDeep}
use Rattle.t1_scan.specs.Texts.{ends_run, can_end, IsReadable}
use Rattle.t1_scan.proofs.StringsRead.{string_read, angle_read}
use Rattle.t1_scan.proofs.BodiesRead.{procedure_read, procedure_deep, array_read, array_deep}
use Rattle.t1_scan.proofs.NumbersRead.{not_true, ends_test, prefix_is, decimal_parts, IsRadix, radix_parts, decimal_value, radix_value}

run_ends : (s : List ℕ) → ends_run s ≡ true → ends_test is_regular s ≡ true
unfolding ends_test
run_ends [] h = refl
run_ends (b ∷ s) h = h

-- a byte with which a token begins
abbrev pub starts : ℕ → Bool
starts b = not (is_blank b || b == 37)

no_blanks : (b : ℕ) (s : List ℕ) → starts b ≡ true → blank_len false (b ∷ s) ≡ 0
unfolding blank_len
no_blanks b s h = rw (not_true (is_blank b || b == 37) h) refl

pub starts_here : (b : ℕ) (s : List ℕ) → starts b ≡ true → token_of (b ∷ s) ≡ cut (b ∷ s) (token_len b s)
starts_here b s h = rw (no_blanks b s h) refl

-- what is read where a token of this kind and text is
abbrev pub answer : Kind → List ℕ → List ℕ → Result (Option Found) ScanError
answer kind text rest = Ok (Some (record { kind = kind; text = text; rest = rest }))

begins : (b : ℕ) (u after : List ℕ) (k : Kind) → starts b ≡ true → token_len b (u ++ after) ≡ Some (length (b ∷ u)) → kind_of (b ∷ u) ≡ k
    → token_of ((b ∷ u) ++ after) ≡ answer k (b ∷ u) after
begins b u after k h len kind =
    starts_here b (u ++ after) h ∙ ap (cut (b ∷ (u ++ after))) len ∙ rw (take-append_seam (b ∷ u) after, drop-append_seam (b ∷ u) after, kind) refl

deep : (b : ℕ) (u after : List ℕ) → starts b ≡ true → token_len b (u ++ after) ≡ None → token_of ((b ∷ u) ++ after) ≡ Err Unclosed
deep b u after h len = starts_here b (u ++ after) h ∙ ap (cut (b ∷ (u ++ after))) len

-- a run of regular bytes
pub record IsOther (b : ℕ) : Type 0 where
  pub starts : starts b ≡ true
  pub slash : (b == 47) ≡ false
  pub parenthesis : (b == 40) ≡ false
  pub less : (b == 60) ≡ false
  pub greater : (b == 62) ≡ false
  pub brace : (b == 123) ≡ false
  pub bracket : (b == 91) ≡ false

pub regular_is : (b : ℕ) → is_regular b ≡ true → IsOther b
regular_is b h = record {
  starts = grind (arith, nat_tests);
  slash = grind (arith, nat_tests);
  parenthesis = grind (arith, nat_tests);
  less = grind (arith, nat_tests);
  greater = grind (arith, nat_tests);
  brace = grind (arith, nat_tests);
  bracket = grind (arith, nat_tests);
}

run_is : (run after : List ℕ) → list_all is_regular run ≡ true → ends_run after ≡ true → run_len (run ++ after) ≡ length run
run_is run after h e = prefix_is is_regular run after h (run_ends after e)

pub regular_len : (b : ℕ) (s : List ℕ) → is_regular b ≡ true → IsOther b → token_len b s ≡ Some (1 + run_len s)
unfolding token_len
regular_len b s h o = rw (h, o.slash, o.bracket, o.brace, o.greater) refl

pub regular_kind : (b : ℕ) (s : List ℕ) → IsOther b → kind_of (b ∷ s) ≡ number_or_word (number_of (b ∷ s))
unfolding kind_of
regular_kind b s o = rw (o.slash, o.parenthesis, o.less, o.brace, o.bracket) refl

run_read : (run after : List ℕ) (k : Kind) → list_all is_regular run ≡ true → not (length run == 0) ≡ true → ends_run after ≡ true
    → number_or_word (number_of run) ≡ k → token_of (run ++ after) ≡ answer k run after
run_read [] after k h some e kind = absurd (false≢true some)
run_read (b ∷ u) after k h some e kind =
    let parts = and_parts (is_regular b) (list_all is_regular u) h in
    let o = regular_is b parts.0 in
    begins b u after k o.starts (regular_len b (u ++ after) parts.0 o ∙ ap (λ n. Some (1 + n)) (run_is u after parts.1 e)
    ∙ ap Some (omega arith)) (regular_kind b u o ∙ kind)

-- one test implies another at each element
all_by : (p q : ℕ → Bool) → ((b : ℕ) → p b ≡ true → q b ≡ true) → (run : List ℕ) → list_all p run ≡ true → list_all q run ≡ true
all_by p q h [] e = refl
all_by p q h (b ∷ run) e =
    let parts = and_parts (p b) (list_all p run) e in rw (h b parts.0, all_by p q h run parts.1) refl

pub digits_regular : (run : List ℕ) → list_all is_decimal_digit run ≡ true → list_all is_regular run ≡ true
digits_regular run h = all_by is_decimal_digit is_regular (λ b e. grind (arith, nat_tests)) run h

not_empty : (run : List ℕ) → 0 < length run → not (length run == 0) ≡ true
not_empty [] h = absurd (omega arith)
not_empty (b ∷ run) h = let nonzero : (length (b ∷ run) == 0) ≡ false = grind (arith, nat_tests) in rw nonzero refl

digits_some : (whole : List ℕ) (fraction : Option (List ℕ)) → not (length whole + length (decimals_of fraction) == 0) ≡ true
    → 0 < length whole + length (decimals_of fraction)
digits_some whole fraction h = grind (arith, nat_tests)

small_base : (base digits : List ℕ) → IsRadix base digits → digits_value 10 base ≤ 36
small_base base digits h = let high = h.high in grind (arith, nat_tests)

-- digits of a base are regular: each delimiter and blank has the value 36
digit_regular : (b base : ℕ) → base ≤ 36 → nat_lt (digit_value b) base ≡ true → is_regular b ≡ true
digit_regular b base h e = grind (arith, nat_tests)

in_base_regular : (base : ℕ) (digits : List ℕ) → base ≤ 36 → are_in_base base digits ≡ true → list_all is_regular digits ≡ true
in_base_regular base digits h e = all_by (λ c. nat_lt (digit_value c) base) is_regular (λ b k. digit_regular b base h k) digits e

all_both : (p : ℕ → Bool) (xs ys : List ℕ) → list_all p xs ≡ true → list_all p ys ≡ true → list_all p (xs ++ ys) ≡ true
all_both p xs ys h k = list_all-append p xs ys ∙ rw (h, k) refl

fraction_regular : (fraction : Option (List ℕ)) → list_all is_decimal_digit (decimals_of fraction) ≡ true → list_all is_regular (fraction_text fraction) ≡ true
fraction_regular None h = refl
fraction_regular (Some decimals) h = digits_regular decimals h

sign_regular : (sign : Sign) → list_all is_regular (sign_text sign) ≡ true
sign_regular no_sign = refl
sign_regular plus = refl
sign_regular minus = refl

length_fraction : (fraction : Option (List ℕ)) → length (decimals_of fraction) ≤ length (fraction_text fraction)
length_fraction None = omega arith
length_fraction (Some decimals) = omega arith

decimal_read : (sign : Sign) (whole : List ℕ) (fraction : Option (List ℕ)) (after : List ℕ) → is_decimal whole fraction ≡ true → ends_run after ≡ true
    → token_of (spelled (decimal sign whole fraction) ++ after) ≡ answer (meant (decimal sign whole fraction)) (spelled (decimal sign whole fraction)) after
decimal_read sign whole fraction after h e =
    let p = decimal_parts whole fraction h in
    let run = spelled (decimal sign whole fraction) in
    let regular = all_both is_regular (sign_text sign) (whole ++ fraction_text fraction) (sign_regular sign)
    (all_both is_regular whole (fraction_text fraction) (digits_regular whole p.front) (fraction_regular fraction p.decimals)) in
    let some : not (length run == 0) ≡ true =
    not_empty run (omega (
      arith,
      digits_some whole fraction p.some,
      length_fraction fraction,
      length-append (sign_text sign)
          (whole ++ fraction_text fraction),
      length-append whole (fraction_text fraction),
    )) in
    run_read run after (meant (decimal sign whole fraction)) regular some e (ap number_or_word (decimal_value sign whole fraction h))

radix_read : (base digits after : List ℕ) → is_radix base digits ≡ true → ends_run after ≡ true → token_of (spelled (radix base digits) ++ after)
    ≡ answer (meant (radix base digits)) (spelled (radix base digits)) after
radix_read base digits after h e =
    let p = radix_parts base digits h in
    let run = spelled (radix base digits) in
    let high : digits_value 10 base ≤ 36 = small_base base digits p in
    let regular = all_both is_regular base (35 ∷ digits) (digits_regular base p.front) (in_base_regular (digits_value 10 base) digits high p.behind) in
    let some : not (length run == 0) ≡ true = not_empty run (omega (arith, length-append base (35 ∷ digits))) in
    run_read run after (meant (radix base digits)) regular some e (ap number_or_word (radix_value base digits h))

no_number : (o : Option ℤ) → is_none o ≡ true → number_or_word o ≡ Word
no_number None h = refl
no_number (Some v) h = absurd (false≢true h)

-- one byte that closes nothing
single_41 : (after : List ℕ) → token_of ((41 ∷ []) ++ after) ≡ answer Word (41 ∷ []) after
unfolding token_len part_len kind_of decimal_of magnitude_of radix_of
single_41 after = begins 41 [] after Word refl refl refl

single_93 : (after : List ℕ) → token_of ((93 ∷ []) ++ after) ≡ answer Word (93 ∷ []) after
unfolding token_len part_len kind_of decimal_of magnitude_of radix_of
single_93 after = begins 93 [] after Word refl refl refl

single_125 : (after : List ℕ) → token_of ((125 ∷ []) ++ after) ≡ answer Word (125 ∷ []) after
unfolding token_len part_len kind_of decimal_of magnitude_of radix_of
single_125 after = begins 125 [] after Word refl refl refl

single_62 : (after : List ℕ) → begins_with_close after ≡ false → token_of ((62 ∷ []) ++ after) ≡ answer Word (62 ∷ []) after
unfolding token_len part_len kind_of decimal_of magnitude_of radix_of
single_62 after e = begins 62 [] after Word refl (rw e refl) refl

is_byte : (b n : ℕ) → (b == n) ≡ true → n ≡ b
is_byte b n h = grind (arith, nat_tests)

and_right_false : (x y : Bool) → x ≡ true → (x && y) ≡ false → y ≡ false
and_right_false true y h e = e
and_right_false false y h e = absurd (false≢true h)

single_read : (b : ℕ) (after : List ℕ) → is_plain (single b) ≡ true → can_end (single b) after ≡ true
    → token_of ((b ∷ []) ++ after) ≡ answer Word (b ∷ []) after
single_read b after h e =
    let P : ℕ → Type 0 = λ n. token_of ((n ∷ []) ++ after) ≡ answer Word (n ∷ []) after in
    elim (or_cases (b == 41 || b == 62 || b == 93) (b == 125) h) [
      | inl i ↦ elim (or_cases (b == 41 || b == 62) (b == 93) i) [
        | inl j ↦ elim (or_cases (b == 41) (b == 62) j) [
          | inl k ↦ subst P (is_byte b 41 k) (single_41 after)
          | inr k ↦ subst P (is_byte b 62 k) (single_62 after
              (and_right_false (b == 62) (begins_with_close after) k (not_true (b == 62 && begins_with_close after) e)))
        ]
        | inr j ↦ subst P (is_byte b 93 j) (single_93 after)
      ]
      | inr i ↦ subst P (is_byte b 125 i) (single_125 after)
    ]

double_open_read : (after : List ℕ) → token_of ((60 ∷ 60 ∷ []) ++ after) ≡ answer Word (60 ∷ 60 ∷ []) after
unfolding token_len part_len angle_len kind_of
double_open_read after = begins 60 (60 ∷ []) after Word refl refl refl

double_close_read : (after : List ℕ) → token_of ((62 ∷ 62 ∷ []) ++ after) ≡ answer Word (62 ∷ 62 ∷ []) after
unfolding token_len kind_of decimal_of magnitude_of radix_of
double_close_read after = begins 62 (62 ∷ []) after Word refl refl refl

name_read : (run after : List ℕ) → list_all is_regular run ≡ true → ends_run after ≡ true → token_of ((47 ∷ run) ++ after) ≡ answer Name (47 ∷ run) after
unfolding token_len kind_of
name_read run after h e =
    begins 47 run after Name refl (ap (λ n. Some (1 + n)) (run_is run after h e) ∙ ap Some (omega arith)) refl

parenthesized_read : (letters : Letters) (after : List ℕ) → are_letters letters ≡ true → token_of (spelled (parenthesized letters) ++ after) ≡ answer Text
    (spelled (parenthesized letters)) after
unfolding token_len part_len kind_of
parenthesized_read letters after h =
    let inside = letters_text letters ++ (41 ∷ []) in
    begins 40 inside after Text refl (ap (further 1) (string_read letters after h) ∙ ap Some (omega arith)) refl

first_no_angle : (bytes : List ℕ) → is_not_angle bytes ≡ true → (slice_index (bytes ++ (62 ∷ [])) 0 == 60) ≡ false
first_no_angle [] h = refl
first_no_angle (b ∷ s) h = not_true (b == 60) h

angled_read : (bytes after : List ℕ) → are_hexadecimal bytes ≡ true → token_of (spelled (angled bytes) ++ after) ≡ answer Text (spelled (angled bytes)) after
unfolding token_len part_len kind_of
angled_read bytes after h =
    let inside = bytes ++ (62 ∷ []) in
    let other = first_no_angle bytes (and_parts (is_not_angle bytes) (list_all (λ b. not (b == 62)) bytes) h).0 in
    begins 60 inside after Text refl (ap (further 1) (angle_read bytes after h) ∙ ap Some (omega arith)) (rw other refl)

braced_read : (body : Body) (after : List ℕ) → is_body true body ≡ true → 1 + body_depth body ≤ 32 → token_of (spelled (braced body) ++ after)
    ≡ answer Proc (spelled (braced body)) after
unfolding token_len kind_of
braced_read body after h shallow =
    let inside = body_text body ++ (125 ∷ []) in
    begins 123 inside after Proc refl (ap (further 1) (procedure_read body after h shallow) ∙ ap Some (omega arith)) refl

bracketed_read : (body : Body) (after : List ℕ) → is_body false body ≡ true → 1 + body_depth body ≤ 32 → token_of (spelled (bracketed body) ++ after)
    ≡ answer Array (spelled (bracketed body)) after
unfolding token_len kind_of
bracketed_read body after h shallow =
    let inside = body_text body ++ (93 ∷ []) in
    begins 91 inside after Array refl (ap (further 1) (array_read body after h shallow) ∙ ap Some (omega arith)) refl

pub plain_read : (t : Plain) (after : List ℕ) → IsReadable t → can_end t after ≡ true → token_of (spelled t ++ after) ≡ answer (meant t) (spelled t) after
plain_read (name run) after h e = name_read run after h.plain e
plain_read (word run) after h e =
    let p = and_parts (list_all is_regular run && not (length run == 0)) (is_none (number_of run)) h.plain in
    let q = and_parts (list_all is_regular run) (not (length run == 0)) p.0 in
    run_read run after Word q.0 q.1 e (no_number (number_of run) p.1)
plain_read (decimal sign whole fraction) after h e = decimal_read sign whole fraction after h.plain e
plain_read (radix base digits) after h e = radix_read base digits after h.plain e
plain_read (single b) after h e = single_read b after h.plain e
plain_read double_open after h e = double_open_read after
plain_read double_close after h e = double_close_read after
plain_read (parenthesized letters) after h e = parenthesized_read letters after h.plain
plain_read (angled bytes) after h e = angled_read bytes after h.plain
plain_read (braced body) after h e = braced_read body after h.plain h.shallow
plain_read (bracketed body) after h e = bracketed_read body after h.plain h.shallow

braced_deep : (body : Body) (after : List ℕ) → is_body true body ≡ true → 32 < 1 + body_depth body → token_of (spelled (braced body) ++ after) ≡ Err Unclosed
unfolding token_len
braced_deep body after h past =
    deep 123 (body_text body ++ (125 ∷ [])) after refl (ap (further 1) (procedure_deep body after h past))

bracketed_deep : (body : Body) (after : List ℕ) → is_body false body ≡ true → 32 < 1 + body_depth body
    → token_of (spelled (bracketed body) ++ after) ≡ Err Unclosed
unfolding token_len
bracketed_deep body after h past =
    deep 91 (body_text body ++ (93 ∷ [])) after refl (ap (further 1) (array_deep body after h past))

pub too_deep : TooDeep
too_deep (name _) after h past = absurd (omega arith)
too_deep (word _) after h past = absurd (omega arith)
too_deep (decimal _ _ _) after h past = absurd (omega arith)
too_deep (radix _ _) after h past = absurd (omega arith)
too_deep (single _) after h past = absurd (omega arith)
too_deep double_open after h past = absurd (omega arith)
too_deep double_close after h past = absurd (omega arith)
too_deep (parenthesized _) after h past = absurd (omega arith)
too_deep (angled _) after h past = absurd (omega arith)
too_deep (braced body) after h past = braced_deep body after h past
too_deep (bracketed body) after h past = bracketed_deep body after h past
