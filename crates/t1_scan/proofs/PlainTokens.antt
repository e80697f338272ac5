-- Names, words and digits before a text.
use Rattle.std.proofs.Common.{◌≡◌, ◌+◌, ◌-◌, ◌*◌, ◌<◌, ◌≤◌, ◌==◌, ℕ, ℤ, pos, zero, suc, true, false, nat_lt, Some, None, List, [], ◌∷◌, length, drop, take, get_or, refl, subst, ap, ◌∙◌, arith}
use Rattle.std.proofs.Math.Seq.{take-nil}
use Rattle.std.proofs.lemmas.Bool.{or_parts}
use Rattle.std.proofs.lemmas.Bool.Decides.{nat_tests}
use Rattle.std.proofs.lemmas.List.{append-nil, at_drop_more, take_all}
use Rattle.std.proofs.lemmas.List.Folds.{list_all_more}
use Rattle.std.specs.List.{list_all, slice_index_or}
use Rattle.std.specs.Str.Parse.{digits_value}
use Rattle.t1_scan.specs.declared.token.Kind.{Kind}
use Rattle.t1_scan.specs.declared.token.Kind.TheVariants.{Number, Name, Word}
use Rattle.t1_scan.specs.Bytes.{is_regular, is_decimal_digit}
use Rattle.t1_scan.specs.Lengths.{run_len, token_len}
use Rattle.t1_scan.specs.Numbers.{decimal_of, magnitude_of, number_of, radix_of, scaled}
use Rattle.t1_scan.specs.Private.Forms.{begun, AreDigits, begins_number, begins_digits}
use Rattle.t1_scan.specs.Tokens.{kind_of, first_of}
use Rattle.t1_scan.specs.Spelling.{no_sign, is_decimal}
use Rattle.t1_scan.proofs.NumbersRead.{decimal_value}
use Rattle.t1_scan.proofs.TokensRead.{regular_is, regular_len, regular_kind}
use Rattle.t1_scan.proofs.Values.{no_number, scaled_parts}

-- one digit more of a run
digit_regular : (b : ℕ) → is_decimal_digit b ≡ true → is_regular b ≡ true
digit_regular b h = grind (arith, nat_tests)

pub run_more : (s : List ℕ) (at : ℕ) → at < length s → is_decimal_digit (get_or s at 0) ≡ true → run_len (drop at s) ≡ 1 + run_len (drop (at + 1) s)
run_more s at h digit =
    at_drop_more run_len s at 0 h ∙ (let regular = digit_regular (get_or s at 0) digit in rw regular refl)

pub digits_more : (s : List ℕ) (at : ℕ) → at < length s → list_all is_decimal_digit (take at s) ≡ true → is_decimal_digit (get_or s at 0) ≡ true
    → list_all is_decimal_digit (take (at + 1) s) ≡ true
digits_more s at h before digit = list_all_more is_decimal_digit s at 0 h ∙ rw (before, digit) refl

name_len : (s : List ℕ) → token_len 47 s ≡ Some (1 + run_len s)
unfolding token_len
name_len s = refl

name_kind : (s : List ℕ) → kind_of (47 ∷ s) ≡ Name
unfolding kind_of
name_kind s = refl

pub name_begun : (s : List ℕ) → first_of (47 ∷ s) ≡ begun (47 ∷ s) (Some (1 + run_len s, Name))
name_begun s =
    let one : 1 + run_len s ≡ suc (run_len s) = omega arith in
    rw (name_len s, one, name_kind (take (run_len s) s)) refl

-- a run that is no number is a word
run_begun : (b : ℕ) (s : List ℕ) → is_regular b ≡ true → number_of (b ∷ take (run_len s) s) ≡ None
    → first_of (b ∷ s) ≡ begun (b ∷ s) (Some (1 + run_len s, Word))
run_begun b s regular none =
    let o = regular_is b regular in
    let one : 1 + run_len s ≡ suc (run_len s) = omega arith in
    rw (regular_len b s regular o, one, regular_kind b (take (run_len s) s) o, none) refl

pub word_begun : (b : ℕ) (s : List ℕ) → is_regular b ≡ true → begins_number b ≡ false → first_of (b ∷ s) ≡ begun (b ∷ s) (Some (1 + run_len s, Word))
word_begun b s regular none = run_begun b s regular (no_number (b ∷ take (run_len s) s) (omega arith) none)

-- after a sign, what doesn't begin with a digit or a point is no number
dash_number : (s : List ℕ) → begins_digits s ≡ false → number_of (45 ∷ s) ≡ None
unfolding decimal_of magnitude_of radix_of
dash_number [] h = refl
dash_number (c ∷ s) h =
    let parts = or_parts (is_decimal_digit c) (c == 46) h in
    rw (parts.0, parts.1) refl

front_begins : (n : ℕ) (s : List ℕ) → begins_digits s ≡ false → begins_digits (take n s) ≡ false
front_begins n [] h = ap begins_digits (take-nil n)
front_begins zero (c ∷ s) h = refl
front_begins (suc n) (c ∷ s) h = h

pub dash_begun : (s : List ℕ) → begins_digits s ≡ false → first_of (45 ∷ s) ≡ begun (45 ∷ s) (Some (1 + run_len s, Word))
dash_begun s h = run_begun 45 s refl (dash_number (take (run_len s) s) (front_begins (run_len s) s h))

-- a text is its first byte and what follows it
first_and_rest : (text : List ℕ) → 1 ≤ length text → slice_index_or text 0 0 ∷ take (length text - 1) (drop 1 text) ≡ text
first_and_rest [] some = absurd (omega (arith, some))
first_and_rest (b ∷ s) some = ap (λ t. b ∷ t) (take_all (length (b ∷ s) - 1) s (omega arith))

pub run_front : (text : List ℕ) (n : ℕ) (k : Kind) → 1 ≤ length text → n ≡ run_len (take (length text - 1) (drop 1 text)) →
    first_of (slice_index_or text 0 0 ∷ take (length text - 1) (drop 1 text)) ≡ begun (slice_index_or text 0 0 ∷ take (length text - 1) (drop 1 text))
    (Some (1 + run_len (take (length text - 1) (drop 1 text)), k)) →
    first_of text ≡ begun text (Some (1 + n, k))
run_front text n k some len h =
    let m = run_len (take (length text - 1) (drop 1 text)) in
    rw len (subst (λ t. first_of t ≡ begun t (Some (1 + m, k))) (first_and_rest text some) h)

-- digits alone are a number
digits_number : (run : List ℕ) → 1 ≤ length run → list_all is_decimal_digit run ≡ true → digits_value 10 run < 1000000000
    → number_of run ≡ Some (pos (digits_value 10 run * 1000000000))
digits_number run some digits below =
    let few : nat_lt (digits_value 10 run) 1000000000 ≡ true = grind (arith, nat_tests) in
    let nonzero : (length run + 0 == 0) ≡ false = grind (arith, nat_tests) in
    let plain : is_decimal run None ≡ true = rw (digits, nonzero, few) refl in
    let value : scaled run [] ≡ digits_value 10 run * 1000000000 = scaled_parts run [] ∙ omega arith in
    let number : number_of run ≡ Some (pos (scaled run [])) = rw (append-nil run) at (decimal_value no_sign run None plain) in
    number ∙ ap (λ n. Some (pos n)) value

pub digits_begun : {z : ℤ} (text : List ℕ) (n v : ℕ) → z ≡ pos (v * 1000000000) → 1 ≤ length text → is_decimal_digit (slice_index_or text 0 0) ≡ true
    → AreDigits text n v → v < 1000000000 → first_of text ≡ begun text (Some (n, Number z))
digits_begun [] n v is some digit h below = absurd (omega (arith, some))
digits_begun (b ∷ s) n v is some digit h below =
    let regular = digit_regular b digit in
    let o = regular_is b regular in
    let one : 1 + run_len s ≡ suc (run_len s) = omega arith in
    let run : run_len (b ∷ s) ≡ suc (run_len s) = rw regular one in
    let len : n ≡ suc (run_len s) = h.run ∙ run in
    let digits : list_all is_decimal_digit (b ∷ take (run_len s) s) ≡ true = rw len at h.digits in
    let spelled : v ≡ digits_value 10 (b ∷ take (run_len s) s) = rw len at h.spelled in
    let number = digits_number (b ∷ take (run_len s) s) (omega arith) digits (omega (arith, spelled)) in
    rw (is, len, regular_len b s regular o, one, regular_kind b (take (run_len s) s) o, number, ← spelled) refl
