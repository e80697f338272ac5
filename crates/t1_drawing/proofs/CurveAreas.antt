-- The area of a curve, by that of its chord.
use Rattle.std.proofs.Common.{◌≡◌, ℤ, ◌+ℤ◌, ◌-ℤ◌, ◌*ℤ◌, arith}
use Rattle.std.proofs.lemmas.Int.{ints}
use Rattle.std.proofs.Math.IntN.{*ℤ_comm}
use Rattle.t1_rules.specs.declared.step_rules.flex.Point.{Point}
use Rattle.t1_drawing.specs.Areas.{curve_area, line_area}
use Rattle.t1_drawing.specs.Points.{cross, way}
use Rattle.t1_drawing.specs.Private.Areas.{beyond_chord, together}
use Rattle.t1_drawing.proofs.FlatLaws.{over_difference, over_sum}

-- A product of two differences.
differences : (a p b q : ℤ) → ((a -ℤ p) *ℤ (b -ℤ q)) ≡ (((a *ℤ b) -ℤ (p *ℤ b)) -ℤ ((a *ℤ q) -ℤ (p *ℤ q)))
differences a p b q = omega (
  arith,
  ints,
  over_difference (a -ℤ p) b q,
  less_times a p b,
  less_times a p q,
)
  where
    less_times : (a p b : ℤ) → ((a -ℤ p) *ℤ b) ≡ ((a *ℤ b) -ℤ (p *ℤ b))
    less_times a p b = omega (arith, ints, *ℤ_comm (a -ℤ p) b, over_difference b a p, *ℤ_comm b a, *ℤ_comm b p)

-- A cross product of ways from the same point.
cross_of_ways : (p a b : Point) → cross (way p a) (way p b) ≡ ((cross a b -ℤ cross p b) +ℤ cross p a)
unfolding cross
cross_of_ways p a b = omega (
  arith,
  ints,
  differences a.x p.x b.y p.y,
  differences a.y p.y b.x p.x,
  *ℤ_comm a.x p.y,
  *ℤ_comm a.y p.x,
  *ℤ_comm p.x p.y,
)

cross_over_sum : (a b c : Point) → cross a (together b c) ≡ (cross a b +ℤ cross a c)
unfolding cross
cross_over_sum a b c = omega (arith, ints, over_sum a.x b.y c.y, over_sum a.y b.x c.x)

pub curve_area_is : (p a b q : Point) → curve_area p a b q ≡ (beyond_chord (way p a) (way p b) (way p q) +ℤ line_area p q)
unfolding curve_area line_area
curve_area_is p a b q = omega (
  arith,
  ints,
  cross_over_sum (way p a) (way p b) (way p q),
  cross_over_sum (way p b) (way p q) (way p q),
  cross_of_ways p a b,
  cross_of_ways p a q,
  cross_of_ways p b q,
)
