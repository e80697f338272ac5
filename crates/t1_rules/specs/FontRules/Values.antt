-- Plain values: what they are, and their numbers. Numbers are counted in billionths, and compared exactly.
use Rattle.std.specs.Prelude.{ℕ, ◌*◌, ◌%◌, ◌==◌, ◌&&◌, Bool, true, false, ℤ, pos, List, [], ◌∷◌, take, unsigned_abs}
use Rattle.std.specs.Ordering.{int_eq}
use Rattle.t1_font.specs.Values.{Value, absent, number, numbers, other}
use Rattle.t1_scan.specs.Numbers.{billion}

-- One, in the unit of a product of two numbers.
abbrev pub product_one : ℤ
product_one = pos (billion * billion)

-- A whole number in billionths.
abbrev pub whole : ℕ → ℤ
whole n = pos (n * billion)

-- The entry isn't there.
abbrev pub is_absent : Value → Bool
is_absent absent = true
is_absent (number z) = false
is_absent (numbers count first) = false
is_absent other = false

-- The entry is a number.
abbrev pub is_one_number : Value → Bool
is_one_number absent = false
is_one_number (number z) = true
is_one_number (numbers count first) = false
is_one_number other = false

-- The entry is an array or a procedure of numbers.
abbrev pub is_numbers : Value → Bool
is_numbers absent = false
is_numbers (number z) = false
is_numbers (numbers count first) = true
is_numbers other = false

-- The value is this whole number.
abbrev pub is_the_number : ℕ → Value → Bool
is_the_number n absent = false
is_the_number n (number z) = int_eq z (whole n)
is_the_number n (numbers count first) = false
is_the_number n other = false

-- The two numbers 16 and 16.
abbrev pub is_sixteen_twice : Value → Bool
is_sixteen_twice (numbers count (a ∷ (b ∷ first))) = count == 2 && int_eq a (whole 16) && int_eq b (whole 16)
is_sixteen_twice _ = false

-- The number, or this one where there is none.
abbrev pub number_or : ℤ → Value → ℤ
number_or z absent = z
number_or z (number own) = own
number_or z (numbers count first) = z
number_or z other = z

-- How many numbers there are.
abbrev pub count_in : Value → ℕ
count_in absent = 0
count_in (number z) = 0
count_in (numbers count first) = count
count_in other = 0

-- The first numbers of a list, up to its limit.
abbrev pub first_in : ℕ → Value → List ℤ
first_in limit absent = []
first_in limit (number z) = []
first_in limit (numbers count first) = take limit first
first_in limit other = []

-- A number without a fraction.
abbrev pub is_whole : ℤ → Bool
is_whole z = unsigned_abs z % billion == 0

-- The value is a number of which this is so.
abbrev pub is_number_so : (ℤ → Bool) → Value → Bool
is_number_so test absent = false
is_number_so test (number z) = test z
is_number_so test (numbers count first) = false
is_number_so test other = false

-- The value is so many numbers.
abbrev pub is_so_many : ℕ → Value → Bool
is_so_many n value = is_numbers value && count_in value == n
