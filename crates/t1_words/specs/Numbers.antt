-- Words that PostScript takes for numbers, whatever their size. Type 1 Font Format 1.1, chapter 2.
use Rattle.std.specs.Prelude.{ℕ, Bool, true, false, List, [], ◌∷◌, ◌==◌, ◌||◌, ◌&&◌, not, nat_le, length, if◌then◌else◌}
use Rattle.std.specs.List.{list_all}
use Rattle.t1_scan.specs.Bytes.{is_decimal_digit}
use Rattle.t1_scan.specs.Numbers.{after_whole, whole_part}

-- Without a sign that it begins with.
abbrev pub unsigned : List ℕ → List ℕ
unsigned [] = []
unsigned (b ∷ s) = if b == 43 || b == 45 then s else b ∷ s

-- One decimal digit or more.
abbrev pub are_digits : List ℕ → Bool
are_digits s = not (length s == 0) && list_all is_decimal_digit s

-- Nothing; or `e` or `E`, and a whole number.
abbrev pub is_exponent : List ℕ → Bool
is_exponent [] = true
is_exponent (b ∷ s) = (b == 101 || b == 69) && are_digits (unsigned s)

-- After the digits before a point: the digits behind it, and what follows these.
abbrev pub decimals_of : List ℕ → List ℕ
decimals_of [] = []
decimals_of (b ∷ s) = if b == 46 then whole_part s else []

abbrev pub after_decimals : List ℕ → List ℕ
after_decimals [] = []
after_decimals (b ∷ s) = if b == 46 then after_whole s else b ∷ s

-- Digits with at most one point and at least one digit, and an exponent or none.
abbrev pub is_unsigned_number : List ℕ → Bool
is_unsigned_number s =
    (not (length (whole_part s) == 0) || not (length (decimals_of (after_whole s)) == 0)) && is_exponent (after_decimals (after_whole s))

-- A letter or a digit.
abbrev pub is_radix_digit : ℕ → Bool
is_radix_digit b = is_decimal_digit b || (nat_le 65 b && nat_le b 90) || (nat_le 97 b && nat_le b 122)

-- One letter or digit or more.
abbrev pub are_radix_digits : List ℕ → Bool
are_radix_digits s = not (length s == 0) && list_all is_radix_digit s

abbrev pub is_after_base : List ℕ → Bool
is_after_base [] = false
is_after_base (b ∷ s) = b == 35 && are_radix_digits s

abbrev pub is_radix_number : List ℕ → Bool
is_radix_number s = not (length (whole_part s) == 0) && is_after_base (after_whole s)

abbrev pub is_number : List ℕ → Bool
is_number s = is_unsigned_number (unsigned s) || is_radix_number s
