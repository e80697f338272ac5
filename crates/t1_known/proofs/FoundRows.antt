-- The rows of what was found in a font.
use Rattle.std.proofs.Common.{◌≡◌, ◌<◌, ◌^◌, ◌||◌, ◌&&◌, ℕ, Bool, true, false, true≢false, not, List, [], ◌∷◌, length, map, inl, inr, refl, sym, ap, ap₂, subst, ◌∙◌, arith}
use Rattle.std.proofs.lemmas.Bool.{cases_Bool}
use Rattle.std.proofs.lemmas.Bool.Decides.{nat_tests}
use Rattle.std.proofs.lemmas.Fmt.{decimal_is_IsNumeral}
use Rattle.std.proofs.lemmas.List.{append_cancel_right}
use Rattle.std.proofs.lemmas.List.Sums.{count_by-le-length}
use Rattle.std.proofs.lemmas.Str.Parse.{tells_digits}
use Rattle.std.specs.Fmt.{decimal}
use Rattle.std.specs.List.{AllByRecursion, IsDistinct, filter, list_all}
use Rattle.std.specs.Str.{bytes_eq}
use Rattle.std.specs.Str.Parse.{AllDigits}
use Rattle.t1_many.proofs.DistinctKinds.{kinds_once}
use Rattle.t1_many.proofs.Texts.{equal, itself}
use Rattle.t1_many.specs.KnownFaults.{Reading, RowValue, distinct, found_count, is_among, rows_of}
use Rattle.t1_known.specs.Keys.{key_of, key_text}
use Rattle.t1_known.specs.Laws.{IsInOneLine}
use Rattle.t1_known.specs.Lines.{has_no_line_end}
use Rattle.t1_known.specs.Readings.{IsPlainKind, IsReadable}
use Rattle.t1_scan.specs.Bytes.{is_decimal_digit}

-- ---- numbers that are found

digits_are : (digits : List ℕ) → AllDigits 10 digits → list_all is_decimal_digit digits ≡ true
digits_are [] all = refl
digits_are (c ∷ digits) all =
    let parts = tells_digits.parts c digits all in
    let is : is_decimal_digit c ≡ true = grind (arith, nat_tests, parts.0.0, parts.0.1) in
    ap₂ (λ a b. a && b) is (digits_are digits parts.1)

few_found : (kinds : List (List ℕ)) (kind : List ℕ) → length kinds < 2 ^ 64 → found_count kinds kind < 2 ^ 64
few_found kinds kind few = let most = count_by-le-length (bytes_eq kind) kinds in omega (arith, most, few)

-- ---- each kind once

pub all-filter : (P : List ℕ → Type 0) (p : List ℕ → Bool) (kinds : List (List ℕ)) → AllByRecursion P kinds → AllByRecursion P (filter p kinds)
all-filter P p [] all = tt
all-filter P p (kind ∷ kinds) all = elim (cases_Bool (p kind)) [
  | inl kept ↦ rw kept (all.0, all-filter P p kinds all.1)
  | inr out ↦ rw out (all-filter P p kinds all.1)
]

pub all-distinct : (P : List ℕ → Type 0) (kinds : List (List ℕ)) → AllByRecursion P kinds → AllByRecursion P (distinct kinds)
all-distinct P [] all = tt
all-distinct P (kind ∷ kinds) all =
    (all.0, all-filter P (λ other. not (bytes_eq kind other)) (distinct kinds) (all-distinct P kinds all.1))

among-filter : (kind a : List ℕ) (kinds : List (List ℕ)) → bytes_eq kind a ≡ false
    → is_among (filter (λ other. not (bytes_eq a other)) kinds) kind ≡ is_among kinds kind
among-filter kind a [] apart = refl
among-filter kind a (k ∷ kinds) apart = elim (cases_Bool (bytes_eq a k)) [
  | inl same ↦
      let is : a ≡ k = equal a k same in
      let other : bytes_eq kind k ≡ false = subst (λ t. bytes_eq kind t ≡ false) is apart in
      rw (same, other) (among-filter kind a kinds apart)
  | inr kept ↦ rw kept (ap (λ b. bytes_eq kind k || b) (among-filter kind a kinds apart))
]

pub among-distinct : (kind : List ℕ) (kinds : List (List ℕ)) → is_among (distinct kinds) kind ≡ is_among kinds kind
among-distinct kind [] = refl
among-distinct kind (k ∷ kinds) = elim (cases_Bool (bytes_eq kind k)) [
  | inl same ↦ rw same refl
  | inr other ↦ rw other (among-filter kind k (distinct kinds) other ∙ among-distinct kind kinds)
]

-- ---- rows

abbrev pub counted : List ℕ → (List ℕ → ℕ) → List (List ℕ) → List RowValue
counted font f kinds = map (λ kind. record { count = decimal (f kind); kind = kind; font = font }) kinds

in_one_line : (font : List ℕ) (f : List ℕ → ℕ) (kinds : List (List ℕ)) → ((kind : List ℕ) → f kind < 2 ^ 64) → 0 < length font
    → has_no_line_end font ≡ true → AllByRecursion IsPlainKind kinds → AllByRecursion IsInOneLine (counted font f kinds)
in_one_line font f [] few named plain all = tt
in_one_line font f (kind ∷ kinds) few named plain all =
    let numeral = decimal_is_IsNumeral (f kind) (few kind) in (
      record {
        is = record { counts = numeral.0.0; count = digits_are (decimal (f kind)) numeral.0.1; kind = all.0.0; font = named };
        kind = all.0.1;
        font = plain;
      },
      in_one_line font f kinds few named plain all.1,
    )

-- keys of one font differ where their kinds do
keys_differ : (font a b : List ℕ) → bytes_eq (key_text a font) (key_text b font) ≡ bytes_eq a b
keys_differ font a b = elim (cases_Bool (bytes_eq a b)) [
  | inl same ↦
      let is : a ≡ b = equal a b same in
      let keys : bytes_eq (key_text a font) (key_text b font) ≡ true =
      subst (λ t. bytes_eq (key_text a font) (key_text t font) ≡ true) is (itself (key_text a font)) in
      keys ∙ sym same
  | inr other ↦ elim (cases_Bool (bytes_eq (key_text a font) (key_text b font))) [
    | inl keys ↦
        let is : a ≡ b = append_cancel_right a b (32 ∷ font) (equal (key_text a font) (key_text b font) keys) in
        absurd (true≢false (sym (itself a) ∙ ap (bytes_eq a) is ∙ other))
    | inr keys ↦ keys ∙ sym other
  ]
]

keys_unlike : (font : List ℕ) (f : List ℕ → ℕ) (a : List ℕ) (kinds : List (List ℕ)) → AllByRecursion (λ b. bytes_eq a b ≡ false) kinds
    → AllByRecursion (λ b. bytes_eq (key_text a font) b ≡ false) (map key_of (counted font f kinds))
keys_unlike font f a [] all = tt
keys_unlike font f a (kind ∷ kinds) all = (keys_differ font a kind ∙ all.0, keys_unlike font f a kinds all.1)

keys_once : (font : List ℕ) (f : List ℕ → ℕ) (kinds : List (List ℕ)) → IsDistinct bytes_eq kinds → IsDistinct bytes_eq (map key_of (counted font f kinds))
unfolding IsDistinct
keys_once font f [] once = tt
keys_once font f (kind ∷ kinds) once = (keys_unlike font f kind kinds once.0, keys_once font f kinds once.1)

-- ---- how often

pub none_counted : (kind : List ℕ) (kinds : List (List ℕ)) → is_among kinds kind ≡ false → found_count kinds kind ≡ 0
none_counted kind [] out = refl
none_counted kind (k ∷ kinds) out = elim (cases_Bool (bytes_eq kind k)) [
  | inl same ↦ (let there : true ≡ false = rw same at out in absurd (true≢false there))
  | inr other ↦ (let later : is_among kinds kind ≡ false = rw other at out in rw other (none_counted kind kinds later))
]

module _ (reading : Reading) (is : IsReadable reading) where
  pub rows_in_one_line : AllByRecursion IsInOneLine (rows_of reading.font reading.kinds)
  rows_in_one_line =
      in_one_line reading.font (found_count reading.kinds) (distinct reading.kinds) (λ kind. few_found reading.kinds kind is.few) is.named is.font
      (all-distinct IsPlainKind reading.kinds is.kinds)

  pub row_keys_once : IsDistinct bytes_eq (map key_of (rows_of reading.font reading.kinds))
  row_keys_once = keys_once reading.font (found_count reading.kinds) (distinct reading.kinds) (kinds_once reading.kinds)
