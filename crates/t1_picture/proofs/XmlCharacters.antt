-- Legible texts have only characters that XML can hold.
use Rattle.std.proofs.Common.{◌≡◌, ◌==◌, ◌&&◌, ◌||◌, not, nat_lt, ◌<◌, ◌≤◌, ◌+◌, ◌/◌, ◌%◌, ℕ, Bool, true, false, List, [], ◌∷◌, codes, inl, inr, refl, subst, arith, append-nil}
use Rattle.std.proofs.lemmas.Bool.{and_parts, cases_Bool}
use Rattle.std.proofs.lemmas.Bool.Decides.{nat_tests}
use Rattle.std.proofs.lemmas.Str.{IsUtf8-from_is_utf8, NoCharPasses-append, NoCharPasses-nil, chars_from_encodes, encode_ascii, scalars-chars}
use Rattle.std.specs.List.{AllByRecursion, flat_map, list_all}
use Rattle.std.specs.Str.{NoCharPasses, NonePass, chars, is_utf8}
use lib.Utf8.{encode, low_scalar, scalar, scalars}
use Rattle.t1_forms.specs.Shown.{escaped, shown, shown_byte, shown_char}
use Rattle.t1_reason_texts.specs.Names.{hexadecimal_digit}
use Rattle.t1_picture.specs.Laws.{LegibleTextsAreFit, is_unfit}
use Rattle.t1_forms.specs.Xml.{legible_char}

-- ---- texts without a character that passes a test

of_one : (test : ℕ → Bool) (c : ℕ) → test c ≡ false → NoCharPasses test (encode c)
of_one test c good = (c ∷ [], append-nil (encode c), (good, tt))

with_ascii : (test : ℕ → Bool) (b : ℕ) (rest : List ℕ) → b < 128 → test b ≡ false → NoCharPasses test rest → NoCharPasses test (b ∷ rest)
with_ascii test b rest small good others =
    NoCharPasses-append test (b ∷ []) rest (subst (NoCharPasses test) (encode_ascii b small) (of_one test b good)) others

of_ascii : (test : ℕ → Bool) (bytes : List ℕ) → list_all (λ b. nat_lt b 128 && not (test b)) bytes ≡ true → NoCharPasses test bytes
of_ascii test [] all = NoCharPasses-nil test
of_ascii test (b ∷ bytes) all =
    let parts = and_parts (nat_lt b 128 && not (test b)) (list_all (λ b. nat_lt b 128 && not (test b)) bytes) all in
    let own = and_parts (nat_lt b 128) (not (test b)) parts.0 in
    let small : b < 128 = grind (arith, nat_tests, own.0) in
    with_ascii test b bytes small (passes_not (test b) own.1) (of_ascii test bytes parts.1)
  where
    passes_not : (x : Bool) → not x ≡ true → x ≡ false
    passes_not true e = let no : false ≡ true = e in cc
    passes_not false e = refl

of_all : (test : ℕ → Bool) (text_of : ℕ → List ℕ) (cs : List ℕ) → AllByRecursion (λ c. NoCharPasses test (text_of c)) cs
    → NoCharPasses test (flat_map text_of cs)
of_all test text_of [] each = NoCharPasses-nil test
of_all test text_of (c ∷ cs) each = NoCharPasses-append test (text_of c) (flat_map text_of cs) each.0 (of_all test text_of cs each.1)

-- ---- names as they are shown

-- Below the blank, or no character.
is_bad : ℕ → Bool
is_bad c = nat_lt c 32 || not (scalar c)

good_low : (b : ℕ) → 32 ≤ b → b < 128 → is_bad b ≡ false
unfolding is_bad
good_low b above below =
    let no : nat_lt b 32 ≡ false = grind (arith, nat_tests, above) in
    let yes : scalar b ≡ true = low_scalar b (omega (arith, below)) in
    rw (no, yes) refl

with_digit : (digit : ℕ) (rest : List ℕ) → digit < 16 → NoCharPasses is_bad rest → NoCharPasses is_bad (hexadecimal_digit digit ∷ rest)
with_digit digit rest small others = elim (cases_Bool (nat_lt digit 10)) [
  | inl y ↦ (let low : digit < 10 = grind (arith, nat_tests, y) in
      rw y (with_ascii is_bad (48 + digit) rest (omega (arith, low)) (good_low (48 + digit) (omega arith) (omega (arith, low))) others))
  | inr n ↦ rw n (with_ascii is_bad (55 + digit) rest (omega (arith, small)) (good_low (55 + digit) (omega arith) (omega (arith, small))) others)
]

good_escaped : (b : ℕ) → b < 256 → NoCharPasses is_bad (escaped b)
good_escaped b small =
    with_ascii is_bad 92 _ (omega arith) (good_low 92 (omega arith) (omega arith))
    (with_ascii is_bad 120 _ (omega arith) (good_low 120 (omega arith) (omega arith))
    (with_digit (b / 16) _ (omega (arith, small)) (with_digit (b % 16) [] (omega arith) (NoCharPasses-nil is_bad))))

good_char : (c : ℕ) → scalar c ≡ true → NoCharPasses is_bad (shown_char c)
unfolding is_bad
good_char c is = elim (cases_Bool (c == 92)) [
  | inl y ↦ rw y (with_ascii is_bad 92 (92 ∷ []) (omega arith) (good_low 92 (omega arith) (omega arith))
      (with_ascii is_bad 92 [] (omega arith) (good_low 92 (omega arith) (omega arith)) (NoCharPasses-nil is_bad)))
  | inr n ↦ elim (cases_Bool (nat_lt c 32 || c == 127)) [
    | inl y ↦ (let small : c < 256 = grind (arith, nat_tests, y) in rw (n, y) (good_escaped c small))
    | inr m ↦ (let high : nat_lt c 32 ≡ false = grind (arith, nat_tests, m) in rw (n, m) (of_one is_bad c (rw (high, is) refl)))
  ]
]

good_byte : (b : ℕ) → b < 256 → NoCharPasses is_bad (shown_byte b)
good_byte b small = elim (cases_Bool (nat_lt b 128)) [
  | inl y ↦ (let low : b < 128 = grind (arith, nat_tests, y) in rw y (good_char b (low_scalar b (omega (arith, low)))))
  | inr n ↦ rw n (good_escaped b small)
]

good_chars : (cs : List ℕ) → scalars cs ≡ true → AllByRecursion (λ c. NoCharPasses is_bad (shown_char c)) cs
good_chars [] are = tt
good_chars (c ∷ cs) are = let parts = and_parts (scalar c) (scalars cs) are in (good_char c parts.0, good_chars cs parts.1)

good_bytes : (bytes : List ℕ) → AllByRecursion (λ b. b < 256) bytes → AllByRecursion (λ b. NoCharPasses is_bad (shown_byte b)) bytes
good_bytes [] small = tt
good_bytes (b ∷ bytes) small = (good_byte b small.0, good_bytes bytes small.1)

good_shown : (name : List ℕ) → AllByRecursion (λ b. b < 256) name → NoCharPasses is_bad (shown name)
unfolding shown
good_shown name small = elim (cases_Bool (is_utf8 name)) [
  | inl y ↦ rw y (of_all is_bad shown_char (chars name) (good_chars (chars name) (scalars-chars name (IsUtf8-from_is_utf8 name y))))
  | inr n ↦ rw n (of_all is_bad shown_byte name (good_bytes name small))
]

-- ---- legible texts

left_false : (a b : Bool) → (a || b) ≡ false → a ≡ false
left_false true b e = let no : true ≡ false = e in cc
left_false false b e = refl

is_scalar : (c : ℕ) → is_bad c ≡ false → scalar c ≡ true
unfolding is_bad
is_scalar c good = by_parts (nat_lt c 32) (scalar c) good
  where
    by_parts : (a b : Bool) → (a || not b) ≡ false → b ≡ true
    by_parts true b e = let no : true ≡ false = e in cc
    by_parts false true e = refl
    by_parts false false e = let no : true ≡ false = e in cc

are_scalars : (cs : List ℕ) → NonePass is_bad cs → scalars cs ≡ true
are_scalars [] none = refl
are_scalars (c ∷ cs) none = rw (is_scalar c none.0, are_scalars cs none.1) refl

fit_char : (c : ℕ) → is_bad c ≡ false → NoCharPasses is_unfit (legible_char c)
unfolding is_bad
fit_char c good = elim (cases_Bool (c == 0xFFFE)) [
  | inl y ↦ rw y (of_ascii is_unfit (codes "\\xEF\\xBF\\xBE") refl)
  | inr n ↦ elim (cases_Bool (c == 0xFFFF)) [
    | inl y ↦ rw (n, y) (of_ascii is_unfit (codes "\\xEF\\xBF\\xBF") refl)
    | inr m ↦ (let high : nat_lt c 32 ≡ false = left_false (nat_lt c 32) (not (scalar c)) good in
        rw (n, m) (of_one is_unfit c (rw (high, n, m) refl)))
  ]
]

fit_chars : (cs : List ℕ) → NonePass is_bad cs → AllByRecursion (λ c. NoCharPasses is_unfit (legible_char c)) cs
fit_chars [] none = tt
fit_chars (c ∷ cs) none = (fit_char c none.0, fit_chars cs none.1)

pub legible_texts_are_fit : LegibleTextsAreFit
legible_texts_are_fit name small =
    let good = good_shown name small in
    let same : good.0 ≡ chars (shown name) = chars_from_encodes good.0 (shown name) (good.0, (are_scalars good.0 good.2, good.1)) good.1 in
    of_all is_unfit legible_char (chars (shown name)) (fit_chars (chars (shown name)) (subst (NonePass is_bad) same good.2))
