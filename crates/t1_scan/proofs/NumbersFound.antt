-- A run that is read as a number is spelled in plain form.
use Rattle.std.proofs.Common.{◌≡◌, ◌+◌, ◌*◌, ◌==◌, ℕ, ℤ, pos, neg_ℤ, Bool, true, false, ◌&&◌, not, if◌then◌else◌, nat_le, nat_lt, Option, Some, None, List, [], ◌∷◌, ◌++◌, length, drop, slice_index, refl, sym, ap, subst, ◌∙◌, ◌⊎◌, inl, inr}
use Rattle.std.proofs.lemmas.Bool.{and_parts, cases_Bool}
use Rattle.std.proofs.lemmas.List.{take-append-drop}
use Rattle.std.specs.List.{list_all, prefix_len}
use Rattle.std.specs.Option.{option_map, option_or}
use Rattle.std.specs.Str.Parse.{digits_value}
use Rattle.t1_scan.specs.declared.token.Kind.TheVariants.{Number}
use Rattle.t1_scan.specs.Bytes.{is_decimal_digit}
use Rattle.t1_scan.specs.Numbers.{whole_part, after_whole, is_fraction, scaled, value_of, magnitude_of, decimal_of, are_in_base, in_base, radix_of, number_of}
use Rattle.t1_scan.specs.Spelling.{Sign, no_sign, plus, minus, sign_text, signed, fraction_text, decimals_of, Plain, decimal, radix, spelled, meant, depth_of, is_decimal, is_plain}
use Rattle.t1_scan.specs.Texts.{ends_run, can_end}
use Rattle.t1_scan.proofs.Prefixes.{prefix_all}
use Rattle.t1_scan.proofs.StringsFound.{is_byte}

-- where a test passes something
if_some : {A : Type 0} {x : A} (b : Bool) (o : Option A) → (if b then o else None) ≡ Some x → (b ≡ true) × (o ≡ Some x)
if_some true o h = (refl, h)
if_some false o h = cc

map_some : {A B : Type 0} {y : B} (f : A → B) (o : Option A) → option_map f o ≡ Some y → (x : A) × (o ≡ Some x) × (f x ≡ y)
map_some f None h = cc
map_some f (Some x) h = (x, refl, cc)

-- digits with their point
record HasMagnitude (digits : List ℕ) (n : ℕ) : Type 0 where
  whole : List ℕ
  fraction : Option (List ℕ)
  plain : is_decimal whole fraction ≡ true
  text : digits ≡ whole ++ fraction_text fraction
  value : scaled whole (decimals_of fraction) ≡ n

value_parts : (whole decimals : List ℕ) (n : ℕ) → value_of whole decimals ≡ Some n → (nat_lt (digits_value 10 whole) 1000000000 ≡ true)
    × (Some (scaled whole decimals) ≡ Some n)
unfolding value_of
value_parts whole decimals n h =
    if_some (nat_lt (digits_value 10 whole) 1000000000) (Some (scaled whole decimals)) h

magnitude_parts : (whole after : List ℕ) (n : ℕ) → list_all is_decimal_digit whole ≡ true
    → (if is_fraction after && not (length whole + length (drop 1 after) == 0) then value_of whole (drop 1 after) else None) ≡ Some n
    → HasMagnitude (whole ++ after) n
magnitude_parts whole [] n front h =
    let some = not (length whole + 0 == 0) in
    let p = if_some some (value_of whole []) h in
    let q = value_parts whole [] n p.1 in
    record {
      whole = whole;
      fraction = None;
      plain = rw (front, p.0, q.0) refl;
      text = refl;
      value = cc;
    }
magnitude_parts whole (c ∷ ds) n front h =
    let some = not (length whole + length ds == 0) in
    let p = if_some ((c == 46 && list_all is_decimal_digit ds) && some) (value_of whole ds) h in
    let parts = and_parts (c == 46 && list_all is_decimal_digit ds) some p.0 in
    let point = and_parts (c == 46) (list_all is_decimal_digit ds) parts.0 in
    let q = value_parts whole ds n p.1 in
    record {
      whole = whole;
      fraction = Some ds;
      plain = rw (front, point.1, parts.1, q.0) refl;
      text = ap (λ b. whole ++ (b ∷ ds)) (is_byte c 46 point.0);
      value = cc;
    }

has_magnitude : (digits : List ℕ) (n : ℕ) → magnitude_of digits ≡ Some n → HasMagnitude digits n
unfolding magnitude_of
has_magnitude digits n h =
    let x = magnitude_parts (whole_part digits) (after_whole digits) n (prefix_all is_decimal_digit digits) h in
    record {
      whole = x.whole;
      fraction = x.fraction;
      plain = x.plain;
      text = sym (take-append-drop (prefix_len is_decimal_digit digits) digits) ∙ x.text;
      value = x.value;
    }

-- a token that spells this number
pub record IsNumber (run : List ℕ) (v : ℤ) : Type 0 where
  pub token : Plain
  pub plain : is_plain token ≡ true
  pub depth : depth_of token ≡ 0
  pub text : spelled token ≡ run
  pub kind : meant token ≡ Number v
  pub ends : (rest : List ℕ) → ends_run rest ≡ true → can_end token rest ≡ true

with_sign : (sign : Sign) (digits run : List ℕ) (n : ℕ) (v : ℤ) → sign_text sign ++ digits ≡ run → signed sign n ≡ v → HasMagnitude digits n → IsNumber run v
with_sign sign digits run n v text value x = record {
  token = decimal sign x.whole x.fraction;
  plain = x.plain;
  depth = refl;
  text = ap (λ t. sign_text sign ++ t) (sym x.text) ∙ text;
  kind = ap (λ m. Number (signed sign m)) x.value ∙ ap Number value;
  ends = λ rest h. h;
}

first_sign : (b : ℕ) (s : List ℕ) (v : ℤ)
    → (if b == 45 then option_map (λ n. neg_ℤ (pos n)) (magnitude_of s) else
    (if b == 43 then option_map pos (magnitude_of s) else option_map pos (magnitude_of (b ∷ s)))) ≡ Some v → IsNumber (b ∷ s) v
first_sign b s v h =
    elim (cases_Bool (b == 45)) [
      | inl is ↦
          (let here : option_map (λ n. neg_ℤ (pos n)) (magnitude_of s) ≡ Some v = rw is at h in
          let q = map_some (λ n. neg_ℤ (pos n)) (magnitude_of s) here in
          with_sign minus s (b ∷ s) q.0 v (ap (λ c. c ∷ s) (sym (is_byte b 45 is))) q.2 (has_magnitude s q.0 q.1))
      | inr h45 ↦ elim (cases_Bool (b == 43)) [
        | inl is ↦
            (let here : option_map pos (magnitude_of s) ≡ Some v = rw (h45, is) at h in
            let q = map_some pos (magnitude_of s) here in
            with_sign plus s (b ∷ s) q.0 v (ap (λ c. c ∷ s) (sym (is_byte b 43 is))) q.2 (has_magnitude s q.0 q.1))
        | inr h43 ↦
            (let here : option_map pos (magnitude_of (b ∷ s)) ≡ Some v = rw (h45, h43) at h in
            let q = map_some pos (magnitude_of (b ∷ s)) here in
            with_sign no_sign (b ∷ s) (b ∷ s) q.0 v refl q.2 (has_magnitude (b ∷ s) q.0 q.1))
      ]
    ]

is_decimal_number : (run : List ℕ) (v : ℤ) → decimal_of run ≡ Some v → IsNumber run v
unfolding decimal_of
is_decimal_number [] v h = cc
is_decimal_number (b ∷ s) v h = first_sign b s v h

base_parts : (base digits : List ℕ) (v : ℤ) → list_all is_decimal_digit base ≡ true → not (length base == 0) ≡ true → in_base (digits_value 10 base) digits
    ≡ Some v → IsNumber (base ++ (35 ∷ digits)) v
base_parts base digits v front some h =
    let n = digits_value 10 base in
    let a = nat_le 2 n in
    let b = nat_le n 36 in
    let c = not (length digits == 0) in
    let d = are_in_base n digits in
    let e = nat_lt (digits_value n digits) 1000000000 in
    let p = if_some (a && b && c && d && e) (Some (pos (digits_value n digits * 1000000000))) h in
    let q4 = and_parts (a && b && c && d) e p.0 in
    let q3 = and_parts (a && b && c) d q4.0 in
    let q2 = and_parts (a && b) c q3.0 in
    let q1 = and_parts a b q2.0 in
    let value : pos (digits_value n digits * 1000000000) ≡ v = cc in
    record {
      token = radix base digits;
      plain = rw (front, some, q1.0, q1.1, q2.1, q3.1, q4.1) refl;
      depth = refl;
      text = refl;
      kind = ap Number value;
      ends = λ rest k. k;
    }

radix_parts_found : (base after : List ℕ) (v : ℤ) → list_all is_decimal_digit base ≡ true
    → (if slice_index after 0 == 35 && not (length base == 0) then in_base (digits_value 10 base) (drop 1 after) else None) ≡ Some v
    → IsNumber (base ++ after) v
radix_parts_found base [] v front h = cc
radix_parts_found base (c ∷ digits) v front h =
    let p = if_some (c == 35 && not (length base == 0)) (in_base (digits_value 10 base) digits) h in
    let q = and_parts (c == 35) (not (length base == 0)) p.0 in
    subst (λ x. IsNumber (base ++ (x ∷ digits)) v) (sym (is_byte c 35 q.0)) (base_parts base digits v front q.1 p.1)

is_radix_number : (run : List ℕ) (v : ℤ) → radix_of run ≡ Some v → IsNumber run v
unfolding radix_of
is_radix_number run v h =
    let x = radix_parts_found (whole_part run) (after_whole run) v (prefix_all is_decimal_digit run) h in
    subst (λ r. IsNumber r v) (take-append-drop (prefix_len is_decimal_digit run) run) x

or_some : (o p : Option ℤ) (v : ℤ) → option_or o p ≡ Some v → (o ≡ Some v) ⊎ (p ≡ Some v)
or_some None p v h = inr h
or_some (Some w) p v h = inl h

pub is_number : (run : List ℕ) (v : ℤ) → number_of run ≡ Some v → IsNumber run v
is_number run v h =
    elim (or_some (decimal_of run) (radix_of run) v h) [
      | inl e ↦ is_decimal_number run v e
      | inr e ↦ is_radix_number run v e
    ]
