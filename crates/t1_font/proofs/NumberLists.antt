-- Numbers with a blank between, in brackets or in braces, are one token that can be read.
use Rattle.std.proofs.Common.{◌≡◌, ◌≤◌, ℕ, ℤ, Bool, true, false, nat_lt, Option, Some, None, List, [], ◌∷◌, ◌++◌, length, map, take, refl, ap, ◌∙◌, arith, codes, pos}
use Rattle.std.proofs.lemmas.Bool.{and_parts}
use Rattle.std.proofs.lemmas.Bool.Decides.{nat_tests}
use Rattle.std.proofs.lemmas.List.Folds.{list_all-append}
use Rattle.std.specs.Char.{digit_value}
use Rattle.std.specs.List.{list_all}
use Rattle.std.specs.Str.Parse.{digits_value}
use Rattle.t1_scan.specs.declared.token.Kind.TheVariants.{Number}
use Rattle.t1_scan.specs.Bytes.{is_blank, is_decimal_digit}
use Rattle.t1_scan.specs.Numbers.{scaled}
use Rattle.t1_scan.specs.Spelling.{body_text, body_depth, is_body, is_idle, Sign, no_sign, plus, minus, sign_text, fraction_text, decimals_of, Plain, name, word, decimal, radix, single, double_open, double_close, parenthesized, angled, braced, bracketed, spelled, meant, is_plain, depth_of}
use Rattle.t1_scan.specs.Texts.{lexeme_of, IsReadable, AreReadable, continued, written}
use Rattle.t1_scan.proofs.NumbersRead.{decimal_parts, IsRadix, radix_parts}
use Rattle.t1_scan.proofs.TextsRead.{round_trip}
use Rattle.t1_font.specs.Laws.Lists.{kinds_of, NumbersAreLists, MatrixIsList}
use Rattle.t1_font.specs.Laws.Example.{digits, flat}
use Rattle.t1_font.specs.Values.{numbers, list_value}
use Rattle.t1_font.proofs.ListValues.{counts_numbers, both}

all_by : (p q : ℕ → Bool) → ((b : ℕ) → p b ≡ true → q b ≡ true) → (s : List ℕ) → list_all p s ≡ true → list_all q s ≡ true
all_by p q h [] e = refl
all_by p q h (b ∷ s) e =
    let parts = and_parts (p b) (list_all p s) e in rw (h b parts.0, all_by p q h s parts.1) refl

all_both : (p : ℕ → Bool) (xs ys : List ℕ) → list_all p xs ≡ true → list_all p ys ≡ true → list_all p (xs ++ ys) ≡ true
all_both p xs ys h k = list_all-append p xs ys ∙ rw (h, k) refl

-- The bytes of a number, and blanks, open and close nothing.
digit_idle : (inside : Bool) (b : ℕ) → is_decimal_digit b ≡ true → is_idle inside b ≡ true
digit_idle true b h = grind (arith, nat_tests)
digit_idle false b h = grind (arith, nat_tests)

blank_idle : (inside : Bool) (b : ℕ) → is_blank b ≡ true → is_idle inside b ≡ true
blank_idle true b h = grind (arith, nat_tests)
blank_idle false b h = grind (arith, nat_tests)

in_base_idle : (inside : Bool) (b base : ℕ) → base ≤ 36 → nat_lt (digit_value b) base ≡ true → is_idle inside b ≡ true
in_base_idle true b base h e = grind (arith, nat_tests)
in_base_idle false b base h e = grind (arith, nat_tests)

digits_idle : (inside : Bool) (run : List ℕ) → list_all is_decimal_digit run ≡ true → list_all (is_idle inside) run ≡ true
digits_idle inside run h = all_by is_decimal_digit (is_idle inside) (digit_idle inside) run h

sign_idle : (inside : Bool) (sign : Sign) → list_all (is_idle inside) (sign_text sign) ≡ true
sign_idle inside no_sign = refl
sign_idle true plus = refl
sign_idle false plus = refl
sign_idle true minus = refl
sign_idle false minus = refl

fraction_idle : (inside : Bool) (fraction : Option (List ℕ)) → list_all is_decimal_digit (decimals_of fraction) ≡ true
    → list_all (is_idle inside) (fraction_text fraction) ≡ true
fraction_idle inside None h = refl
fraction_idle true (Some decimals) h = digits_idle true decimals h
fraction_idle false (Some decimals) h = digits_idle false decimals h

small_base : (base digits : List ℕ) → IsRadix base digits → digits_value 10 base ≤ 36
small_base base digits h = let high = h.high in grind (arith, nat_tests)

radix_behind : (inside : Bool) (digits : List ℕ) → list_all (is_idle inside) digits ≡ true → list_all (is_idle inside) (35 ∷ digits) ≡ true
radix_behind true digits h = h
radix_behind false digits h = h

number_idle : (inside : Bool) (t : Plain) (z : ℤ) → is_plain t ≡ true → meant t ≡ Number z → list_all (is_idle inside) (spelled t) ≡ true
number_idle inside (decimal sign whole fraction) z h k =
    let parts = decimal_parts whole fraction h in
    all_both (is_idle inside) (sign_text sign) (whole ++ fraction_text fraction) (sign_idle inside sign)
    (all_both (is_idle inside) whole (fraction_text fraction) (digits_idle inside whole parts.front) (fraction_idle inside fraction parts.decimals))
number_idle inside (radix base digits) z h k =
    let parts = radix_parts base digits h in
    let small = small_base base digits parts in
    all_both (is_idle inside) base (35 ∷ digits) (digits_idle inside base parts.front)
    (radix_behind inside digits (all_by (λ b. nat_lt (digit_value b) (digits_value 10 base)) (is_idle inside)
    (λ b e. in_base_idle inside b (digits_value 10 base) small e) digits parts.behind))
number_idle inside (name run) z h k = cc
number_idle inside (word run) z h k = cc
number_idle inside (single b) z h k = cc
number_idle inside double_open z h k = cc
number_idle inside double_close z h k = cc
number_idle inside (parenthesized _) z h k = cc
number_idle inside (angled bytes) z h k = cc
number_idle inside (braced body) z h k = cc
number_idle inside (bracketed body) z h k = cc

continued_idle : (inside : Bool) (blank : ℕ) (ts : List Plain) (values : List ℤ) → is_blank blank ≡ true → AreReadable ts → kinds_of (map lexeme_of ts)
    ≡ map Number values → list_all (is_idle inside) (continued blank ts) ≡ true
continued_idle inside blank [] values h r same = refl
continued_idle inside blank (t ∷ ts) [] h r same = cc
continued_idle inside blank (t ∷ ts) (z ∷ values) h r same =
    let kind : meant t ≡ Number z = cc in
    let more : kinds_of (map lexeme_of ts) ≡ map Number values = cc in
    let later = all_both (is_idle inside) (spelled t) (continued blank ts) (number_idle inside t z r.0.plain kind)
    (continued_idle inside blank ts values h r.1 more) in
    rw (blank_idle inside blank h, later) refl

written_idle : (inside : Bool) (blank : ℕ) (ts : List Plain) (values : List ℤ) → is_blank blank ≡ true → AreReadable ts → kinds_of (map lexeme_of ts)
    ≡ map Number values → list_all (is_idle inside) (written blank ts) ≡ true
written_idle inside blank [] values h r same = refl
written_idle inside blank (t ∷ ts) [] h r same = cc
written_idle inside blank (t ∷ ts) (z ∷ values) h r same =
    let kind : meant t ≡ Number z = cc in
    let more : kinds_of (map lexeme_of ts) ≡ map Number values = cc in
    all_both (is_idle inside) (spelled t) (continued blank ts) (number_idle inside t z r.0.plain kind) (continued_idle inside blank ts values h r.1 more)

-- A body of bytes that open and close nothing.
body_is : (inside : Bool) (s : List ℕ) → list_all (is_idle inside) s ≡ true → is_body inside (flat s) ≡ true
body_is inside [] h = refl
body_is inside (b ∷ s) h =
    let parts = and_parts (is_idle inside b) (list_all (is_idle inside) s) h in
    rw (parts.0, body_is inside s parts.1) refl

text_is : (s : List ℕ) → body_text (flat s) ≡ s
text_is [] = refl
text_is (b ∷ s) = ap (λ r. b ∷ r) (text_is s)

depth_is : (s : List ℕ) → body_depth (flat s) ≡ 0
depth_is [] = refl
depth_is (b ∷ s) = depth_is s

shallow_array : (s : List ℕ) → depth_of (bracketed (flat s)) ≤ 32
shallow_array s = let flat = depth_is s in omega (arith, flat)

shallow_procedure : (s : List ℕ) → depth_of (braced (flat s)) ≤ 32
shallow_procedure s = let flat = depth_is s in omega (arith, flat)

pub numbers_are_lists : NumbersAreLists
numbers_are_lists blank ts values h readable same =
    let s = written blank ts in
    let text = text_is s in
    let value = ap list_value text ∙ counts_numbers s values (record { tokens = map lexeme_of ts; read = round_trip blank ts h readable; kinds = same }) in
    record {
      inside = text;
      array = record { plain = body_is false s (written_idle false blank ts values h readable same); shallow = shallow_array s };
      procedure = record { plain = body_is true s (written_idle true blank ts values h readable same); shallow = shallow_procedure s };
      both = both (flat s) (numbers (length values) (take 16 values)) value;
    }

-- The numbers of a FontMatrix.
abbrev matrix : List Plain
matrix =
    let scale = decimal no_sign (codes "0") (Some (codes "001")) in
    let none = digits (codes "0") in
    scale ∷ none ∷ none ∷ scale ∷ none ∷ none ∷ []

readable : (t : Plain) → is_plain t ≡ true → depth_of t ≡ 0 → IsReadable t
readable t h k = record { plain = h; shallow = omega (arith, k) }

matrix_readable : AreReadable matrix
matrix_readable =
    let scale : IsReadable (decimal no_sign (codes "0") (Some (codes "001"))) = readable _ refl refl in
    let none : IsReadable (digits (codes "0")) = readable _ refl refl in
    (scale, (none, (none, (scale, (none, (none, tt))))))

pub matrix_is_list : MatrixIsList
unfolding scaled
matrix_is_list =
    numbers_are_lists 32 matrix (pos 1000000 ∷ pos 0 ∷ pos 0 ∷ pos 1000000 ∷ pos 0 ∷ pos 0 ∷ []) refl matrix_readable refl
