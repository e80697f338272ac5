-- Sums of coordinates that fit.
use Rattle.std.specs.Prelude.{ℤ, pos, negsuc, ◌+ℤ◌, ◌≤ℤ◌}

abbrev pub SumFits : ℤ → ℤ → Type 0
SumFits one other = (negsuc 9223372036854775807 ≤ℤ (one +ℤ other)) × ((one +ℤ other) ≤ℤ pos 9223372036854775807)
