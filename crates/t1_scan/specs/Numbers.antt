-- The number that a run of regular bytes spells, in billionths. The forms are PostScript's, as Type
-- 1 Font Format uses it (chapters 2 and 10); the limit and the unit are this product's own.
use Rattle.std.specs.Prelude.{ℕ, ℤ, pos, neg_ℤ, Bool, true, Option, Some, None, List, [], ◌∷◌, ◌++◌, ◌+◌, ◌*◌, ◌/◌, ◌^◌, ◌==◌, ◌&&◌, not, if◌then◌else◌, nat_lt, nat_le, length, drop, slice_index}
use Rattle.std.specs.Option.{option_map, option_or}
use Rattle.std.specs.List.{prefix_len, take_while, list_all}
use Rattle.std.specs.Char.{digit_value}
use Rattle.std.specs.Str.Parse.{digits_value}
use Rattle.t1_scan.specs.Bytes.{is_decimal_digit}

-- A number is below a billion, and its value is counted in billionths.
abbrev pub billion : ℕ
billion = 1000000000

abbrev pub below_billion : ℕ → Option ℕ
below_billion n = if nat_lt n billion then Some n else None

-- the digits before a point, and what follows them
abbrev pub whole_part : List ℕ → List ℕ
whole_part digits = take_while is_decimal_digit digits

abbrev pub after_whole : List ℕ → List ℕ
after_whole digits = drop (prefix_len is_decimal_digit digits) digits

-- nothing, or a point and digits
abbrev pub is_fraction : List ℕ → Bool
is_fraction [] = true
is_fraction (b ∷ s) = b == 46 && list_all is_decimal_digit s

-- all the digits as one number, in billionths: the decimals past the ninth are cut
unfoldable pub scaled : List ℕ → List ℕ → ℕ
scaled whole decimals = digits_value 10 (whole ++ decimals) * billion / 10 ^ length decimals

-- that number, if what is before the point is below a billion
unfoldable pub value_of : List ℕ → List ℕ → Option ℕ
value_of whole decimals =
    if nat_lt (digits_value 10 whole) billion then Some (scaled whole decimals) else None

-- digits with at most one point and at least one digit
unfoldable pub magnitude_of : List ℕ → Option ℕ
magnitude_of digits =
    let whole = whole_part digits in
    let decimals = drop 1 (after_whole digits) in
    if is_fraction (after_whole digits) && not (length whole + length decimals == 0)
    then value_of whole decimals
    else None

-- with an optional sign before them
unfoldable pub decimal_of : List ℕ → Option ℤ
decimal_of [] = None
decimal_of (b ∷ s) =
    if b == 45 then option_map (λ n. neg_ℤ (pos n)) (magnitude_of s)
    else (if b == 43 then option_map pos (magnitude_of s)
    else option_map pos (magnitude_of (b ∷ s)))

-- the greatest base: its digits are all digits and all letters
abbrev pub greatest_base : ℕ
greatest_base = 36

-- digits of a base from 2 on, letters in either case, below a billion
abbrev pub are_in_base : ℕ → List ℕ → Bool
are_in_base base digits = list_all (λ c. nat_lt (digit_value c) base) digits

abbrev pub in_base : ℕ → List ℕ → Option ℤ
in_base base digits =
    if nat_le 2 base
    && nat_le base greatest_base
    && not (length digits == 0)
    && are_in_base base digits
    && nat_lt (digits_value base digits) billion
    then Some (pos (digits_value base digits * billion))
    else None

-- a base in decimal, `#`, and digits of that base
unfoldable pub radix_of : List ℕ → Option ℤ
radix_of run =
    if slice_index (after_whole run) 0 == 35 && not (length (whole_part run) == 0)
    then in_base (digits_value 10 (whole_part run)) (drop 1 (after_whole run))
    else None

-- either form; no run has both
abbrev pub number_of : List ℕ → Option ℤ
number_of run = option_or (decimal_of run) (radix_of run)
