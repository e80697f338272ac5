-- Digits and the bytes that they write, a digit at a time.
use Rattle.std.proofs.Common.{◌≡◌, ℕ, ◌+◌, ◌-◌, ◌*◌, ◌/◌, ◌<◌, ◌≤◌, ◌++◌, Bool, true, false, cond, ◌||◌, ◌&&◌, List, [], ◌∷◌, length, drop, get_or, Option, Some, None, Ok, refl, ap, sym, ◌∙◌, append_assoc, append-nil, length-append, drop-cons, one-add, add-one, arith}
use Rattle.std.specs.Prelude.{nat_le, is_some, unwrap_or}
use Rattle.std.specs.Char.{is_ascii_hexdigit}
use Rattle.std.specs.List.{prefix_len}
use Rattle.hex.specs.Hex.{hex_digit_value, decode_pairs, decode_sized}
use Rattle.t1_seal.specs.declared.opening.Opening.{Opening}
use Rattle.t1_seal.specs.Eexec.{is_digit, is_blank, is_digit_or_blank, digit_value, digits_of, bytes_of_digits}
use Rattle.t1_seal.specs.Private.Opening.{HasRoom, HasTaken, IsFor}
use Rattle.std.proofs.lemmas.List.{drop_all}
use Rattle.t1_seal.proofs.Openings.{has_room}

-- The two tests for a digit agree.
some_of_ranges : (x y z : Bool) (a b c : ℕ) → ((z || x) || y) ≡ is_some (cond x (Some a) (cond y (Some b) (cond z (Some c) None)))
some_of_ranges true true true a b c = refl
some_of_ranges true true false a b c = refl
some_of_ranges true false true a b c = refl
some_of_ranges true false false a b c = refl
some_of_ranges false true true a b c = refl
some_of_ranges false true false a b c = refl
some_of_ranges false false true a b c = refl
some_of_ranges false false false a b c = refl

pub digit_tests : (c : ℕ) → is_ascii_hexdigit c ≡ is_digit c
unfolding is_digit
digit_tests c = some_of_ranges (nat_le 65 c && nat_le c 70) (nat_le 97 c && nat_le c 102) (nat_le 48 c && nat_le c 57) (c - 55) (c - 87) (c - 48)

-- Two digits decode to the byte that they write.
decoded_pair : (high low : ℕ) (u v : Option ℕ) → is_some u ≡ true → is_some v ≡ true → hex_digit_value high ≡ u → hex_digit_value low ≡ v
    → decode_pairs 0 (high ∷ low ∷ []) ≡ Ok ((unwrap_or u 0 * 16 + unwrap_or v 0) ∷ [])
unfolding decode_pairs
decoded_pair high low None v h k e f = absurd (cc)
decoded_pair high low (Some a) None h k e f = absurd (cc)
decoded_pair high low (Some a) (Some b) h k e f = rw (e, f) refl

pub digits_decoded : (high low : ℕ) → is_digit high ≡ true → is_digit low ≡ true → decode_sized (high ∷ low ∷ []) 1
    ≡ Ok ((digit_value high * 16 + digit_value low) ∷ [])
unfolding is_digit digit_value
digits_decoded high low h k = decoded_pair high low (hex_digit_value high) (hex_digit_value low) h k refl refl

-- The digits, a byte at a time: a digit is one of them, a blank is skipped, another byte ends them.
pub digits-cons : (c : ℕ) (rest : List ℕ) → is_digit c ≡ true → digits_of (c ∷ rest) ≡ c ∷ digits_of rest
digits-cons c rest h = rw (h, one-add (prefix_len is_digit_or_blank rest), h) refl

pub digits-blank : (c : ℕ) (rest : List ℕ) → is_digit c ≡ false → is_blank c ≡ true → digits_of (c ∷ rest) ≡ digits_of rest
digits-blank c rest h k = rw (h, k, one-add (prefix_len is_digit_or_blank rest), h) refl

pub digits-other : (c : ℕ) (rest : List ℕ) → is_digit c ≡ false → is_blank c ≡ false → digits_of (c ∷ rest) ≡ []
digits-other c rest h k = rw (h, k) refl

-- The bytes that the digits write after a first digit of a pair, if there is one.
abbrev pub bytes_after : Option ℕ → List ℕ → List ℕ
bytes_after None digits = bytes_of_digits digits
bytes_after (Some high) digits = bytes_of_digits (high ∷ digits)

abbrev pub IsDigitIfAny : Option ℕ → Type 0
IsDigitIfAny None = Unit {0}
IsDigitIfAny (Some high) = is_digit high ≡ true

abbrev pub count_of : Option ℕ → ℕ
count_of None = 0
count_of (Some high) = 1

-- The bytes of a section below i were read. The opening took what their pairs of digits write; high is
-- a digit without a second one yet; the rest writes what is left.
pub record HasRead (section : List ℕ) (i : ℕ) (high : Option ℕ) (opening : Opening) : Type 0 where
  pub front : List ℕ
  pub taken : HasTaken opening front
  pub room : IsFor (length section / 2) opening
  pub short : 2 * length front + count_of high ≤ i
  pub digit : IsDigitIfAny high
  pub rest : front ++ bytes_after high (digits_of (drop i section)) ≡ bytes_of_digits (digits_of section)

pub none_read : (section : List ℕ) (opening : Opening) → HasTaken opening [] → IsFor (length section / 2) opening → HasRead section 0 None opening
none_read section opening taken room = record {
  front = [];
  taken = taken;
  room = room;
  short = omega arith;
  digit = tt;
  rest = refl;
}

-- The digits from i on, by the byte at i.
digits_at : (section : List ℕ) (i : ℕ) → i < length section → digits_of (drop i section) ≡ digits_of (get_or section i 0 ∷ drop (i + 1) section)
digits_at section i h = rw (add-one i) (ap digits_of (drop-cons section i 0 h))

-- A first digit waits for its second one.
pub digit_kept : (section : List ℕ) (i : ℕ) (opening : Opening) → i < length section → is_digit (get_or section i 0) ≡ true → HasRead section i None opening
    → HasRead section (i + 1) (Some (get_or section i 0)) opening
digit_kept section i opening h digit r =
    let c : ℕ = get_or section i 0 in
    let digits : digits_of (drop i section) ≡ c ∷ digits_of (drop (i + 1) section) =
    digits_at section i h ∙ digits-cons c (drop (i + 1) section) digit in
    record {
      front = r.front;
      taken = r.taken;
      room = r.room;
      short = omega (arith, r.short);
      digit = digit;
      rest = ap (λ ds. r.front ++ bytes_of_digits ds) (sym digits) ∙ r.rest;
    }

-- With the second digit the byte of both is taken.
pub pair_taken : (section : List ℕ) (i high : ℕ) (old new : Opening) → i < length section → is_digit (get_or section i 0) ≡ true
    → (r : HasRead section i (Some high) old) → HasTaken new (r.front ++ (digit_value high * 16 + digit_value (get_or section i 0)) ∷ [])
    → IsFor (length section / 2) new → HasRead section (i + 1) None new
pair_taken section i high old new h digit r taken room =
    let c : ℕ = get_or section i 0 in
    let byte : ℕ = digit_value high * 16 + digit_value c in
    let later : List ℕ = digits_of (drop (i + 1) section) in
    let digits : digits_of (drop i section) ≡ c ∷ later = digits_at section i h ∙ digits-cons c (drop (i + 1) section) digit in
    record {
      front = r.front ++ byte ∷ [];
      taken = taken;
      room = room;
      short = omega (arith, r.short, length-append r.front (byte ∷ []));
      digit = tt;
      rest = append_assoc r.front (byte ∷ []) (bytes_of_digits later) ∙ ap (λ ds. r.front ++ bytes_of_digits (high ∷ ds)) (sym digits) ∙ r.rest;
    }

-- A blank is skipped.
pub blank_passed : (section : List ℕ) (i : ℕ) (high : Option ℕ) (opening : Opening) → i < length section → is_digit (get_or section i 0) ≡ false
    → is_blank (get_or section i 0) ≡ true → HasRead section i high opening → HasRead section (i + 1) high opening
blank_passed section i high opening h digit blank r =
    let c : ℕ = get_or section i 0 in
    let digits : digits_of (drop i section) ≡ digits_of (drop (i + 1) section) =
    digits_at section i h ∙ digits-blank c (drop (i + 1) section) digit blank in
    record {
      front = r.front;
      taken = r.taken;
      room = r.room;
      short = omega (arith, r.short);
      digit = r.digit;
      rest = ap (λ ds. r.front ++ bytes_after high ds) (sym digits) ∙ r.rest;
    }

-- A pair has room, since its two digits are in the section.
pub pair_has_room : (section : List ℕ) (i high : ℕ) (opening : Opening) → i < length section → HasRead section i (Some high) opening → HasRoom opening
pair_has_room section i high opening h r =
    let below : length r.front < length section / 2 = omega (arith, r.short) in
    has_room opening r.front (length section / 2) r.taken r.room below

-- Once no digits are left, what was taken is what the digits write.
nothing_after : (high : Option ℕ) → bytes_after high [] ≡ []
nothing_after None = refl
nothing_after (Some high) = refl

pub all_read : (section : List ℕ) (i : ℕ) (high : Option ℕ) (opening : Opening) → digits_of (drop i section) ≡ [] → (r : HasRead section i high opening)
    → r.front ≡ bytes_of_digits (digits_of section)
all_read section i high opening none r =
    sym (append-nil r.front) ∙ ap (λ bytes. r.front ++ bytes) (sym (nothing_after high)) ∙ ap (λ ds. r.front ++ bytes_after high ds) (sym none) ∙ r.rest

pub none_at_end : (section : List ℕ) (i : ℕ) → length section ≤ i → digits_of (drop i section) ≡ []
none_at_end section i h = ap digits_of (drop_all i section h)

pub none_at_other : (section : List ℕ) (i : ℕ) → i < length section → is_digit (get_or section i 0) ≡ false → is_blank (get_or section i 0) ≡ false
    → digits_of (drop i section) ≡ []
none_at_other section i h digit blank = digits_at section i h ∙ digits-other (get_or section i 0) (drop (i + 1) section) digit blank
