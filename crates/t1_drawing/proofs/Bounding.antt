-- Products of coordinates that aren't far from 0.
use Rattle.std.proofs.Common.{◌≤◌, ◌*◌, ◌^◌, ℕ, ℤ, pos, negsuc, ◌-ℤ◌, ◌*ℤ◌, unsigned_abs, arith}
use Rattle.std.proofs.lemmas.Int.{ints, unsigned_abs-mul}
use Rattle.std.proofs.Math.Nat.{mul-le-mul}
use Rattle.t1_rules.specs.declared.step_rules.flex.Point.{Point}
use Rattle.t1_rules.specs.Watches.{IsWithin, reach}
use Rattle.t1_drawing.specs.Areas.{widest}
use Rattle.t1_drawing.specs.Bounds.{most_ways}
use Rattle.t1_drawing.specs.Points.{cross}
use Rattle.t1_drawing.specs.Private.Areas.{IsClose, IsWide, most_cross, most_wide_cross}

magnitude : (n : ℕ) (z : ℤ) → IsWithin n z → unsigned_abs z ≤ n
magnitude n (pos k) within = omega (arith, ints, within.high)
magnitude n (negsuc k) within = omega (arith, ints, within.low)

from_magnitude : (n : ℕ) (z : ℤ) → unsigned_abs z ≤ n → IsWithin n z
from_magnitude n (pos k) few = record { low = omega (arith, ints); high = omega (arith, ints, few) }
from_magnitude n (negsuc k) few = record { low = omega (arith, ints, few); high = omega (arith, ints) }

pub product_within : (m n : ℕ) (a b : ℤ) → IsWithin m a → IsWithin n b → IsWithin (m * n) (a *ℤ b)
product_within m n a b first second =
    from_magnitude (m * n) (a *ℤ b)
    (rw (unsigned_abs-mul a b) (mul-le-mul (magnitude m a first) (magnitude n b second)))

-- What is within a range is within a greater one.
pub wider : (m n : ℕ) (z : ℤ) → m ≤ n → IsWithin m z → IsWithin n z
wider m n z more within = record { low = omega (arith, ints, more, within.low); high = omega (arith, ints, more, within.high) }

pub product_of_ways : (a b : ℤ) → IsWithin (2 * most_ways * reach) a → IsWithin (2 * most_ways * reach) b → IsWithin (2 ^ 120) (a *ℤ b)
product_of_ways a b first second =
    wider ((2 * most_ways * reach) * (2 * most_ways * reach)) (2 ^ 120) (a *ℤ b) (omega arith) (product_within _ _ a b first second)

pub twice_within : (n : ℕ) (a b : ℤ) → IsWithin n a → IsWithin n b → IsWithin (2 * n) (a -ℤ b)
twice_within n a b first second = record {
  low = omega (arith, ints, first.low, second.high);
  high = omega (arith, ints, first.high, second.low);
}

pub cross_within : (p q : Point) → IsClose p → IsClose q → IsWithin most_cross (cross p q)
unfolding cross
cross_within p q first second =
    twice_within (widest * widest) (p.x *ℤ q.y) (p.y *ℤ q.x)
    (product_within widest widest p.x q.y first.x second.y) (product_within widest widest p.y q.x first.y second.x)

pub wide_cross_within : (p q : Point) → IsWide 4 p → IsWide 4 q → IsWithin most_wide_cross (cross p q)
unfolding cross
wide_cross_within p q first second =
    twice_within ((4 * widest) * (4 * widest)) (p.x *ℤ q.y) (p.y *ℤ q.x)
    (product_within (4 * widest) (4 * widest) p.x q.y first.x second.y) (product_within (4 * widest) (4 * widest) p.y q.x first.y second.x)
