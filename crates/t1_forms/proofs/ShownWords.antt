-- A name, as it is shown, is a word for it.
use Rattle.std.proofs.Common.{◌≡◌, ℕ, zero, suc, ◌+◌, ◌*◌, ◌/◌, ◌%◌, ◌<◌, Bool, true, false, ◌&&◌, ◌||◌, nat_lt, ◌==◌, List, [], ◌∷◌, ◌++◌, length, get_or, Option, None, Some, inl, inr, refl, sym, ap, ◌∙◌, subst, arith, append-nil}
use Rattle.std.proofs.lemmas.Bool.{and_parts, cases_Bool, cases_lt, cases_eq}
use Rattle.std.proofs.lemmas.Bool.Decides.{nat_tests}
use Rattle.std.proofs.lemmas.Str.{IsUtf8-from_is_utf8, encodes-chars, scalars-chars, encode_ascii, inside_one}
use lib.Utf8.{scalar, scalars, encode, encodes, low_scalar}
use Rattle.std.specs.Prelude.{◌≢◌}
use Rattle.std.specs.List.{flat_map, AllByRecursion}
use Rattle.std.specs.Str.{chars, is_utf8}
use Rattle.hex.specs.Hex.{hex_digit_value}
use Rattle.t1_forms.specs.NameWords.{name_behind, name_of_word, nothing}
use Rattle.t1_reason_texts.specs.Names.{hexadecimal_digit}
use Rattle.t1_forms.specs.Shown.{escaped, shown_char, shown_byte, shown}
use Rattle.t1_forms.specs.Laws.{ShownNamesAreWords}

-- ---- digits

abbrev pub has_value : Option ℕ → ℕ → Bool
has_value None d = false
has_value (Some v) d = v == d

value_is : (o : Option ℕ) (d : ℕ) → has_value o d ≡ true → o ≡ Some d
value_is None d e = cc
value_is (Some v) d e = let same : v ≡ d = grind (arith, nat_tests, e) in rw same refl

abbrev pub digits_below : ℕ → Bool
digits_below zero = true
digits_below (suc n) = has_value (hex_digit_value (hexadecimal_digit n)) n && digits_below n

pub digit_below : (n : ℕ) → digits_below n ≡ true → (d : ℕ) → d < n → hex_digit_value (hexadecimal_digit d) ≡ Some d
digit_below zero e d h = absurd (omega arith)
digit_below (suc n) e d h =
    let p = and_parts _ _ e in
    elim (cases_eq d n) [ inl same ↦ rw same (value_is _ n p.0) | inr other ↦ digit_below n p.1 d (omega arith) ]

pub all_digits : digits_below 16 ≡ true
all_digits = refl

-- ---- what means a byte, or a character

plain : (b : ℕ) (rest : List ℕ) (name : List ℕ) → b ≢ 92 → name_behind nothing rest ≡ Some name → name_behind nothing (b ∷ rest) ≡ Some (b ∷ name)
unfolding name_behind
plain b rest name other h = elim (cases_eq b 92) [
  | inl same ↦ absurd (other same)
  | inr n ↦ (let no : (b == 92) ≡ false = grind (arith, nat_tests, n) in rw (no, h) refl)
]

plain_front : (xs rest name : List ℕ) → ((k : ℕ) → k < length xs → get_or xs k 0 ≢ 92) → name_behind nothing rest ≡ Some name
    → name_behind nothing (xs ++ rest) ≡ Some (xs ++ name)
plain_front [] rest name other h = h
plain_front (x ∷ xs) rest name other h =
    plain x (xs ++ rest) (xs ++ name) (other 0 (omega arith)) (plain_front xs rest name (λ k below. other (suc k) (omega arith)) h)

escaped_front : (b : ℕ) (rest name : List ℕ) → b < 256 → name_behind nothing rest ≡ Some name
    → name_behind nothing (escaped b ++ rest) ≡ Some (b ∷ name)
unfolding name_behind
escaped_front b rest name small h =
    let high = digit_below 16 all_digits (b / 16) (omega arith) in
    let low = digit_below 16 all_digits (b % 16) (omega arith) in
    let whole : b / 16 * 16 + b % 16 ≡ b = omega arith in
    rw (high, low, h, whole) refl

-- The bytes of a character that isn't a backslash have none.
no_backslash : (c : ℕ) → c ≢ 92 → (k : ℕ) → k < length (encode c) → get_or (encode c) k 0 ≢ 92
no_backslash c other k below is =
    let e = inside_one c [] (encode c) k (sym (append-nil _)) below in
    elim (cases_lt c 128) [
      | inl small ↦ other (let one = encode_ascii c small in omega (arith, is, e))
      | inr big ↦ absurd (omega (arith, is, e, big))
    ]

char_front : (c : ℕ) (rest name : List ℕ) → scalar c ≡ true → name_behind nothing rest ≡ Some name
    → name_behind nothing (shown_char c ++ rest) ≡ Some (encode c ++ name)
unfolding name_behind encode
char_front c rest name ok h = elim (cases_eq c 92) [
  | inl same ↦ rw (same, h) refl
  | inr other ↦ elim (cases_Bool (nat_lt c 32 || c == 127)) [
    | inl y ↦
        let small : c < 128 = grind (arith, nat_tests, y) in
        let no : (c == 92) ≡ false = grind (arith, nat_tests, other) in
        rw (no, y, encode_ascii c small) (escaped_front c rest name (omega (arith, small)) h)
    | inr z ↦
        let no : (c == 92) ≡ false = grind (arith, nat_tests, other) in
        rw (no, z) (plain_front (encode c) rest name (no_backslash c other) h)
  ]
]

chars_name : (cs : List ℕ) → scalars cs ≡ true → name_of_word (flat_map shown_char cs) ≡ Some (encodes cs)
unfolding name_behind
chars_name [] ok = refl
chars_name (c ∷ cs) ok = let p = and_parts _ _ ok in char_front c (flat_map shown_char cs) (encodes cs) p.0 (chars_name cs p.1)

byte_front : (b : ℕ) (rest name : List ℕ) → b < 256 → name_behind nothing rest ≡ Some name
    → name_behind nothing (shown_byte b ++ rest) ≡ Some (b ∷ name)
byte_front b rest name small h = elim (cases_lt b 128) [
  | inl low ↦
      let is : nat_lt b 128 ≡ true = grind (arith, nat_tests, low) in
      rw is (subst (λ xs. name_behind nothing (shown_char b ++ rest) ≡ Some (xs ++ name)) (encode_ascii b low)
      (char_front b rest name (low_scalar b (omega (arith, low))) h))
  | inr high ↦
      let is : nat_lt b 128 ≡ false = grind (arith, nat_tests, high) in
      rw is (escaped_front b rest name small h)
]

bytes_name : (bs : List ℕ) → AllByRecursion (λ b. b < 256) bs → name_of_word (flat_map shown_byte bs) ≡ Some bs
unfolding name_behind
bytes_name [] small = refl
bytes_name (b ∷ bs) small = byte_front b (flat_map shown_byte bs) bs small.0 (bytes_name bs small.1)

pub shown_words : ShownNamesAreWords
unfolding shown
shown_words name small = elim (cases_Bool (is_utf8 name)) [
  | inl y ↦
      let valid = IsUtf8-from_is_utf8 name y in
      rw y (chars_name (chars name) (scalars-chars name valid) ∙ ap Some (encodes-chars name valid))
  | inr n ↦ rw n (bytes_name name small)
]
