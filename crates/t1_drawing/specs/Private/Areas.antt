-- How large areas become, and what is kept of one after a further segment.
use Rattle.std.specs.Prelude.{ℕ, ℤ, pos, ◌*◌, ◌+ℤ◌, ◌*ℤ◌}
use Rattle.t1_outline.specs.declared.segment.Segment.{Segment}
use Rattle.t1_outline.specs.declared.segment.Segment.TheVariants.{Move, Line, Curve, Close}
use Rattle.t1_rules.specs.declared.step_rules.flex.Point.{Point}
use Rattle.t1_rules.specs.StepRules.Flex.{at}
use Rattle.t1_rules.specs.Watches.{IsWithin}
use Rattle.t1_drawing.specs.declared.area.Area.{Area}
use Rattle.t1_drawing.specs.Areas.{curve_area, line_area, widest}
use Rattle.t1_drawing.specs.Points.{cross}

-- A point whose coordinates are within the range of areas.
pub record IsClose (point : Point) : Type 0 where
  pub x : IsWithin widest point.x
  pub y : IsWithin widest point.y

pub record AreClose (start one two end : Point) : Type 0 where
  pub first : IsClose start
  pub second : IsClose one
  pub third : IsClose two
  pub last : IsClose end

abbrev pub IsDrawnClose : Segment → Type 0
IsDrawnClose (Move p) = IsClose p
IsDrawnClose (Line end) = IsClose end
IsDrawnClose (Curve one two end) = IsClose one × IsClose two × IsClose end
IsDrawnClose Close = Unit {0}

-- A way of which no coordinate is more than so many times that range.
pub record IsWide (n : ℕ) (way : Point) : Type 0 where
  pub x : IsWithin (n * widest) way.x
  pub y : IsWithin (n * widest) way.y

-- Twenty times the area between a curve and its chord, by the ways from the curve's start to its other points.
abbrev pub together : Point → Point → Point
together one other = at (one.x +ℤ other.x) (one.y +ℤ other.y)

abbrev pub beyond_chord : Point → Point → Point → ℤ
beyond_chord one two end = pos 3 *ℤ (cross one (together two end) +ℤ cross two (together end end))

-- A cross product of such points is of two products.
abbrev pub most_cross : ℕ
most_cross = 2 * (widest * widest)

-- One of such ways, of four times the range at most.
abbrev pub most_wide_cross : ℕ
most_wide_cross = 2 * ((4 * widest) * (4 * widest))

-- How much one segment can change an area: the numbers of a curve's formula are 22 together.
abbrev pub most_area : ℕ
most_area = 22 * most_cross

abbrev pub area_after : Area → Segment → Area
area_after a (Move p) = record { began = p; end = p; twentyfold = a.twentyfold +ℤ line_area a.end a.began }
area_after a (Line end) = record { began = a.began; end = end; twentyfold = a.twentyfold +ℤ line_area a.end end }
area_after a (Curve one two end) = record { began = a.began; end = end; twentyfold = a.twentyfold +ℤ curve_area a.end one two end }
area_after a Close = record { began = a.began; end = a.began; twentyfold = a.twentyfold +ℤ line_area a.end a.began }
