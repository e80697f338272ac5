-- The numbers on the stack, in units of 1/65536. Type 1 Font Format 1.1, chapter 6 (Charstring Number
-- Encoding; div). The unit, the cut of a quotient, and that one past the range of 32000 is kept within it
-- are this project's own.
use Rattle.std.specs.Prelude.{ℕ, ℤ, pos, negsuc, neg_ℤ, ◌*ℤ◌, ◌*◌, ◌/◌, ◌%◌, ◌^◌, ◌==◌, ◌&&◌, nat_lt, if◌then◌else◌, Option, Some, None, int_div}
use Rattle.std.specs.Int.{int_max, int_min}
use Rattle.std.specs.Ordering.{int_eq}

-- 1 in these units.
abbrev pub unit : ℕ
unit = 65536

-- The greatest number of the range, 32000, and the least.
abbrev pub greatest : ℤ
greatest = pos (32000 * unit)

abbrev pub least : ℤ
least = neg_ℤ greatest

-- A number of a charstring in these units.
abbrev pub units : ℤ → ℤ
units z = z *ℤ pos unit

-- The number from -32000 to 32000 that is nearest.
abbrev pub clamped : ℤ → ℤ
clamped z = int_max least (int_min z greatest)

-- The quotient, cut towards zero.
abbrev pub cut_quotient : ℤ → ℤ → ℤ
cut_quotient a b = int_div (a *ℤ pos unit) b

-- What div makes of two numbers.
abbrev pub quotient : ℤ → ℤ → ℤ
quotient a b = if int_eq b (pos 0) then pos 0 else clamped (cut_quotient a b)

-- The number as a count or the number of a Subr: where it is whole and not negative. No number that
-- the stack can hold has more than 48 bits.
abbrev pub natural : ℤ → Option ℕ
natural (pos n) = if n % unit == 0 && nat_lt n (2 ^ 48) then Some (n / unit) else None
natural (negsuc _) = None
