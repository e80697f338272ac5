-- The value of digits: of some before others, and of decimals in billionths.
use Rattle.std.proofs.Common.{◌≡◌, ◌+◌, ◌*◌, ◌/◌, ◌^◌, ◌<◌, ◌≤◌, ◌==◌, ℕ, zero, suc, true, false, nat_lt, None, List, [], ◌∷◌, ◌++◌, length, drop, take, get_or, refl, sym, ap, ◌∙◌, inl, inr, arith}
use Rattle.std.proofs.Math.Bool.{and-false}
use Rattle.std.proofs.Math.Nat.{pow-succ', pow-zero, add-mul, mul_assoc, zero-div, mul-div-mul_right, mul-add-div, mul-le-mul_right, div-eq_of_lt, pow-le-pow_right}
use Rattle.std.proofs.lemmas.Bool.{and_parts, cases_lt, or_parts}
use Rattle.std.proofs.lemmas.Bool.Decides.{nat_tests}
use Rattle.std.proofs.lemmas.List.{at_drop_more, at_drop_all}
use Rattle.std.proofs.lemmas.Int.Digits.{digits_value-lt}
use Rattle.std.proofs.lemmas.Str.Parse.{digits_value-take-le}
use Rattle.std.specs.List.{list_all, slice_index_or}
use Rattle.std.specs.Char.{digit_value}
use Rattle.std.specs.Str.Parse.{AllDigits, digits_value, digits_value_after}
use Rattle.t1_scan.specs.Bytes.{is_decimal_digit}
use Rattle.t1_scan.specs.Private.Forms.{begins_number}
use Rattle.t1_scan.specs.Numbers.{below_billion, decimal_of, magnitude_of, number_of, radix_of, scaled}
use Rattle.t1_scan.specs.Laws.{NineDigits}

spread : (n base d t v : ℕ) → (n * base + d) * t + v ≡ n * (base * t) + ((0 * base + d) * t + v)
spread n base d t v = omega (arith, add-mul (n * base) d t, mul_assoc n base t)

-- digits after others: each place counts the base times the next
pub digits_value_after_is : (base n : ℕ) (ds : List ℕ) → digits_value_after base n ds ≡ n * base ^ length ds + digits_value base ds
digits_value_after_is base n [] = rw (pow-zero base) (omega arith)
digits_value_after_is base n (d ∷ ds) =
    let more = digits_value_after_is base (n * base + digit_value d) ds in
    let first = digits_value_after_is base (0 * base + digit_value d) ds in
    more ∙ spread n base (digit_value d) (base ^ length ds) (digits_value base ds)
    ∙ ap (λ m. n * m + ((0 * base + digit_value d) * base ^ length ds + digits_value base ds)) (sym (pow-succ' base (length ds)))
    ∙ ap (λ m. n * base ^ suc (length ds) + m) (sym first)

pub digits_value_after-append : (base n : ℕ) (xs ys : List ℕ) → digits_value_after base n (xs ++ ys) ≡ digits_value_after base (digits_value_after base n xs) ys
digits_value_after-append base n [] ys = refl
digits_value_after-append base n (x ∷ xs) ys = digits_value_after-append base (n * base + digit_value x) xs ys

pub digits_value-append : (base : ℕ) (xs ys : List ℕ) → digits_value base (xs ++ ys) ≡ digits_value base xs * base ^ length ys + digits_value base ys
digits_value-append base xs ys =
    digits_value_after-append base 0 xs ys ∙ digits_value_after_is base (digits_value base xs) ys

pub digits_value-cons : (base d : ℕ) (ds : List ℕ) → digits_value base (d ∷ ds) ≡ digit_value d * base ^ length ds + digits_value base ds
digits_value-cons base d ds =
    let e = digits_value_after_is base (0 * base + digit_value d) ds in omega (arith, e)

pub digit_small : (b : ℕ) → is_decimal_digit b ≡ true → digit_value b ≤ 9
digit_small b h = grind (arith, nat_tests)

pub digit_at : (s : List ℕ) (i : ℕ) → list_all is_decimal_digit s ≡ true → i < length s → digit_value (get_or s i 0) ≤ 9
digit_at [] i h l = absurd (omega arith)
digit_at (b ∷ s) zero h l = digit_small b (and_parts (is_decimal_digit b) (list_all is_decimal_digit s) h).0
digit_at (b ∷ s) (suc i) h l =
    digit_at s i (and_parts (is_decimal_digit b) (list_all is_decimal_digit s) h).1 (omega arith)

pub AllDigits-decimal : (s : List ℕ) → list_all is_decimal_digit s ≡ true → AllDigits 10 s
AllDigits-decimal [] h = tt
AllDigits-decimal (b ∷ s) h =
    let p = and_parts (is_decimal_digit b) (list_all is_decimal_digit s) h in
    let nine = digit_small b p.0 in
    (omega arith, AllDigits-decimal s p.1)

-- decimals of which the first counts so many billionths, and each other a tenth of the one before
-- it, cut
unfoldable pub billionths : ℕ → List ℕ → ℕ
billionths unit [] = 0
billionths unit (b ∷ s) = digit_value b * unit + billionths (unit / 10) s

pub billionths_more : (unit : ℕ) (s : List ℕ) (i : ℕ) → i < length s → billionths unit (drop i s) ≡ digit_value (get_or s i 0) *
    unit + billionths (unit / 10) (drop (i + 1) s)
unfolding billionths
billionths_more unit s i h = at_drop_more (billionths unit) s i 0 h

pub billionths_end : (unit : ℕ) (s : List ℕ) (i : ℕ) → length s ≤ i → billionths unit (drop i s) ≡ 0
unfolding billionths
billionths_end unit s i h = at_drop_all (billionths unit) s i h

-- a digit of at most nine
pub digit_fits : (d unit : ℕ) → d ≤ 9 → d * unit ≤ 9 * unit
digit_fits d unit h = mul-le-mul_right unit h

past_ninth : (s : List ℕ) → billionths 0 s ≡ 0
unfolding billionths
past_ninth [] = refl
past_ninth (b ∷ s) = let e = past_ninth s in omega (arith, e)

ten_pos : (n : ℕ) → 0 < 10 ^ n
ten_pos zero = omega arith
ten_pos (suc n) = let h = ten_pos n in let e = pow-succ' 10 n in omega (arith, h, e)

-- one decimal before others, each in units of a tenth
tenth : (d t v u : ℕ) → 0 < t → (d * t + v) * (10 * u) / (10 * t) ≡ d * u + v * u / t
tenth d t v u some =
    let above : (d * t + v) * (10 * u) ≡ (t * (d * u) + v * u) * 10 = omega arith in
    let below : 10 * t ≡ t * 10 = omega arith in
    rw (above, below, mul-div-mul_right {m = 10} (t * (d * u) + v * u) t (omega arith)) (mul-add-div some (d * u) (v * u))

tenth_of : (k : ℕ) → 10 ^ suc k / 10 ≡ 10 ^ k
tenth_of k =
    let e = pow-succ' 10 k in
    rw e (let swap : 10 * 10 ^ k ≡ 10 ^ k * 10 = omega arith in omega arith)

billionths_are : (k : ℕ) (s : List ℕ) → list_all is_decimal_digit s ≡ true → billionths (10 ^ k) s ≡ digits_value 10 s * 10 ^ suc k / 10 ^ length s
unfolding billionths
billionths_are k [] h = let none : 0 * 10 ^ suc k ≡ 0 = omega arith in rw none (sym (zero-div 1))
billionths_are zero (b ∷ s) h =
    let p = and_parts (is_decimal_digit b) (list_all is_decimal_digit s) h in
    let small = digits_value-lt 10 s (AllDigits-decimal s p.1) in
    let one : digits_value 10 s * 1 ≡ digits_value 10 s = omega arith in
    let none : digits_value 10 s * 1 / 10 ^ length s ≡ 0 = rw one (div-eq_of_lt small) in
    let t = tenth (digit_value b) (10 ^ length s) (digits_value 10 s) 1 (ten_pos (length s)) in
    rw (digits_value-cons 10 b s, pow-succ' 10 (length s)) (ap (λ m. digit_value b * 1 + m) (past_ninth s ∙ sym none) ∙ sym t)
billionths_are (suc k) (b ∷ s) h =
    let p = and_parts (is_decimal_digit b) (list_all is_decimal_digit s) h in
    let ih = billionths_are k s p.1 in
    let t = tenth (digit_value b) (10 ^ length s) (digits_value 10 s) (10 ^ suc k) (ten_pos (length s)) in
    rw (digits_value-cons 10 b s, pow-succ' 10 (length s), tenth_of k, ih, pow-succ' 10 (suc k)) (sym t)

pub billionths-value : (s : List ℕ) → list_all is_decimal_digit s ≡ true → billionths 100000000 s ≡ digits_value 10 s * 1000000000 / 10 ^ length s
billionths-value s h = billionths_are 8 s h

-- the digits before a point and those after it
pub scaled_parts : (whole decimals : List ℕ) → scaled whole decimals ≡ digits_value 10 whole * 1000000000 + digits_value 10 decimals *
    1000000000 / 10 ^ length decimals
unfolding scaled
scaled_parts whole decimals =
    let t = 10 ^ length decimals in
    let w = digits_value 10 whole in
    let v = digits_value 10 decimals in
    let above : (w * t + v) * 1000000000 ≡ t * (w * 1000000000) + v * 1000000000 = omega arith in
    rw (digits_value-append 10 whole decimals, above) (mul-add-div (ten_pos (length decimals)) (w * 1000000000) (v * 1000000000))

pub not_below : (base : ℕ) (ds : List ℕ) (i : ℕ) → 1 ≤ base → 1000000000 ≤ digits_value base (take i ds) → below_billion (digits_value base ds) ≡ None
not_below base ds i one h =
    let grows = digits_value-take-le base ds i one in
    let e : nat_lt (digits_value base ds) 1000000000 ≡ false = grind (arith, nat_tests) in
    rw e refl

leading_zero : (ds : List ℕ) → digits_value 10 (48 ∷ ds) ≡ digits_value 10 ds
leading_zero ds = refl

first_digit : (d : ℕ) (ds : List ℕ) → 0 < digit_value d → 10 ^ length ds ≤ digits_value 10 (d ∷ ds)
first_digit d ds some =
    let front = mul-le-mul_right (10 ^ length ds) some in
    let e = digits_value-cons 10 d ds in
    omega (arith, front, e)

few_digits : (d : ℕ) (ds : List ℕ) → AllDigits 10 (d ∷ ds) → length (d ∷ ds) ≤ 9 → digits_value 10 (d ∷ ds) < 1000000000
few_digits d ds h few =
    let below = digits_value-lt 10 (d ∷ ds) h in
    let grows : 10 ^ length (d ∷ ds) ≤ 10 ^ 9 = pow-le-pow_right (omega arith) few in
    omega (arith, below, grows)

many_digits : (d : ℕ) (ds : List ℕ) → 0 < digit_value d → digits_value 10 (d ∷ ds) < 1000000000 → length (d ∷ ds) ≤ 9
many_digits d ds some below =
    elim (cases_lt 8 (length ds)) [
      | inl many ↦ (let grows : 10 ^ 9 ≤ 10 ^ length ds = pow-le-pow_right (omega arith) many in absurd (omega (arith, grows, first_digit d ds some)))
      | inr few ↦ omega arith
    ]

pub nine_digits : NineDigits
nine_digits = (leading_zero, λ d ds h some. (λ below. many_digits d ds some below, λ few. few_digits d ds h few))

-- a run that begins with any other byte is no number
pub no_number : (run : List ℕ) → 1 ≤ length run → begins_number (slice_index_or run 0 0) ≡ false → number_of run ≡ None
unfolding decimal_of magnitude_of radix_of
no_number [] long none = absurd (omega (arith, long))
no_number (b ∷ s) long none =
    let last = or_parts _ (b == 46) none in
    let sign = or_parts _ (b == 45) last.0 in
    let digit = or_parts (is_decimal_digit b) (b == 43) sign.0 in
    rw (digit.0, digit.1, sign.1, last.1, and-false (b == 35)) refl
