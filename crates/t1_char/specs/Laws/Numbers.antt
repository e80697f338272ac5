-- Laws of numbers on the stack. Type 1 Font Format 1.1, chapter 6 (div).
use Rattle.std.specs.Prelude.{◌≡◌, ◌≢◌, ℤ, pos, neg_ℤ, ◌+ℤ◌, ◌*ℤ◌, ◌≤ℤ◌, ◌<ℤ◌, ◌<◌, unsigned_abs}
use Rattle.t1_char.specs.Numbers.{units, cut_quotient, quotient}

-- A quotient, cut towards zero. What its product with the divisor leaves of the dividend is smaller than the
-- divisor. It isn't on the other side of zero than the dividend.
pub record IsCutQuotient (dividend divisor q : ℤ) : Type 0 where
  pub rest : ℤ
  pub whole : q *ℤ divisor +ℤ rest ≡ dividend
  pub small : unsigned_abs rest < unsigned_abs divisor
  pub positive : pos 0 ≤ℤ dividend → pos 0 ≤ℤ rest
  pub negative : dividend ≤ℤ pos 0 → rest ≤ℤ pos 0

-- Of two numbers in units it is the quotient in units.
abbrev pub QuotientsAreCut : Type 0
QuotientsAreCut = (a b : ℤ) → b ≢ pos 0 → IsCutQuotient (units a) b (cut_quotient a b)

-- div keeps it where it lies within -32000 to 32000, and else returns the nearer end of that range.
pub record IsKept (q kept : ℤ) : Type 0 where
  pub within : units (neg_ℤ (pos 32000)) ≤ℤ q → q ≤ℤ units (pos 32000) → kept ≡ q
  pub above : units (pos 32000) <ℤ q → kept ≡ units (pos 32000)
  pub below : q <ℤ units (neg_ℤ (pos 32000)) → kept ≡ units (neg_ℤ (pos 32000))

abbrev pub QuotientsAreKept : Type 0
QuotientsAreKept = (a b : ℤ) → b ≢ pos 0 → IsKept (cut_quotient a b) (quotient a b)

-- Divided by 0 a number is 0.
abbrev pub NoQuotientIsZero : Type 0
NoQuotientIsZero = (a : ℤ) → quotient a (pos 0) ≡ pos 0
