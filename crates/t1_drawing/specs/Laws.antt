-- Laws of drawings, in the words of the subject.
use Rattle.std.specs.Prelude.{◌≡◌, ◌<◌, ◌≤ℤ◌, ◌⊎◌, ℕ, ◌+◌, ◌*◌, ℤ, pos, neg_ℤ, ◌+ℤ◌, ◌-ℤ◌, ◌*ℤ◌, Bool, true, false, Some, List, [], ◌∷◌, ◌++◌, length, map}
use Rattle.std.specs.Int.{int_max, int_min}
use Rattle.std.specs.List.{list_all}
use Rattle.t1_char.specs.Steps.{StepView}
use Rattle.t1_outline.specs.declared.segment.Segment.{Segment}
use Rattle.t1_outline.specs.declared.segment.Segment.TheVariants.{Move, Line, Curve}
use Rattle.t1_outline.specs.Outlines.{drawn}
use Rattle.t1_rules.specs.declared.step_rules.flex.Point.{Point}
use Rattle.t1_rules.specs.StepRules.Flex.{at}
use Rattle.t1_rules.specs.Watches.{most_steps}
use Rattle.t1_drawing.specs.Areas.{area_of}
use Rattle.t1_drawing.specs.Bounds.{CanBeDrawn}
use Rattle.t1_drawing.specs.Curves.{is_flat_from, lacks_extreme_from}
use Rattle.t1_drawing.specs.Points.{cross, way}
use Rattle.t1_drawing.specs.Strokes.{segments_of}

-- ---- curves

abbrev pub cubed : ℕ → ℕ
cubed n = n * n * n

-- A coordinate of a Bézier curve, part / (rest + part) of the way from its start to its end, (rest + part)^3 times: by that of its four points.
abbrev pub place_at : ℕ → ℕ → ℤ → ℤ → ℤ → ℤ → ℤ
place_at rest part start one two end =
    pos (cubed rest) *ℤ start
    +ℤ pos (3 * (rest * rest * part)) *ℤ one
    +ℤ pos (3 * (rest * part * part)) *ℤ two
    +ℤ pos (cubed part) *ℤ end

-- Three units of character space, in units of 1/65536.
abbrev pub three : ℤ
three = pos (3 * 65536)

-- A place is three units or more above both of two others; or so far below both. All so many times.
pub record IsAboveBoth (times : ℕ) (place one other : ℤ) : Type 0 where
  pub first : (pos times *ℤ (one +ℤ three)) ≤ℤ place
  pub second : (pos times *ℤ (other +ℤ three)) ≤ℤ place

pub record IsBelowBoth (times : ℕ) (place one other : ℤ) : Type 0 where
  pub first : place ≤ℤ (pos times *ℤ (one -ℤ three))
  pub second : place ≤ℤ (pos times *ℤ (other -ℤ three))

-- Somewhere between the ends of a curve a coordinate of it is three units or more above both ends, or below both.
pub record GoesBeyond (start one two end : ℤ) : Type 0 where
  pub rest : ℕ
  pub part : ℕ
  pub after_start : 0 < part
  pub before_end : 0 < rest
  pub beyond : IsAboveBoth (cubed (rest + part)) (place_at rest part start one two end) start end
      ⊎ IsBelowBoth (cubed (rest + part)) (place_at rest part start one two end) start end

-- P10 is no false alarm: the curve itself goes beyond its ends, in x or in y.
abbrev pub CurvesWithoutExtremesGoBeyond : Type 0
CurvesWithoutExtremesGoBeyond =
    (start one two end : Point) → lacks_extreme_from (Some start) (Curve one two end) ≡ true →
    GoesBeyond start.x one.x two.x end.x ⊎ GoesBeyond start.y one.y two.y end.y

-- A coordinate is between two others.
pub record IsBetween (place one other : ℤ) : Type 0 where
  pub low : int_min one other ≤ℤ place
  pub high : place ≤ℤ int_max one other

-- The box of two corners has a point.
pub record IsInBox (point one other : Point) : Type 0 where
  pub x : IsBetween point.x one.x other.x
  pub y : IsBetween point.y one.y other.y

-- A curve with points at its extremes, whose control points are within the box of its ends, doesn't break P10.
abbrev pub CurvesWithinTheirEndsAreFine : Type 0
CurvesWithinTheirEndsAreFine =
    (start one two end : Point) → IsInBox one start end → IsInBox two start end →
    lacks_extreme_from (Some start) (Curve one two end) ≡ false

-- The way from so many times a point to a point of a curve.
abbrev pub way_to : ℕ → ℕ → Point → Point → Point → Point → Point
way_to rest part start one two end =
    at (place_at rest part start.x one.x two.x end.x -ℤ pos (cubed (rest + part)) *ℤ start.x)
    (place_at rest part start.y one.y two.y end.y -ℤ pos (cubed (rest + part)) *ℤ start.y)

-- All points of a flat curve are on the straight line through its ends.
abbrev pub FlatCurvesAreOnALine : Type 0
FlatCurvesAreOnALine =
    (start one two end : Point) (rest part : ℕ) → is_flat_from (Some start) (Curve one two end) ≡ true →
    cross (way start end) (way_to rest part start one two end) ≡ pos 0

-- ---- areas

-- The sum of the cross products of a polygon's corners, each with the next one: twice its signed area. The first corner comes after the last one.
abbrev pub corners_from : Point → Point → List Point → ℤ
corners_from first corner [] = cross corner first
corners_from first corner (next ∷ corners) = cross corner next +ℤ corners_from first next corners

-- The area of a polygon is that of its corners.
abbrev pub PolygonsHaveTheAreaOfTheirCorners : Type 0
PolygonsHaveTheAreaOfTheirCorners =
    (first : Point) (corners : List Point) →
    area_of (Move first ∷ map Line corners) ≡ pos 10 *ℤ corners_from first first corners

-- A line or a curve, where it ends, and what it is when it's run the other way.
abbrev pub is_stroke : Segment → Bool
is_stroke (Line end) = true
is_stroke (Curve one two end) = true
is_stroke s = false

abbrev pub end_from : Point → Segment → Point
end_from start (Line end) = end
end_from start (Curve one two end) = end
end_from start s = start

abbrev pub turned : Point → Segment → Segment
turned start (Line end) = Line start
turned start (Curve one two end) = Curve two one start
turned start s = s

-- Where lines and curves lead from a point on, and those that lead the other way.
abbrev pub last_from : Point → List Segment → Point
last_from start [] = start
last_from start (s ∷ ss) = last_from (end_from start s) ss

abbrev pub all_turned : Point → List Segment → List Segment
all_turned start [] = []
all_turned start (s ∷ ss) = all_turned (end_from start s) ss ++ turned start s ∷ []

-- A subpath that is run the other way has the opposite area: of the two just one runs clockwise, if there is any area.
abbrev pub TurnedSubpathsHaveTheOppositeArea : Type 0
TurnedSubpathsHaveTheOppositeArea =
    (start : Point) (strokes : List Segment) → list_all is_stroke strokes ≡ true →
    area_of (Move (last_from start strokes) ∷ all_turned start strokes) ≡ neg_ℤ (area_of (Move start ∷ strokes))

-- ---- what steps draw

-- What a step draws can be seen after what fewer steps than a watcher of the rules sees drew.
abbrev pub DrawnSegmentsCanBeSeen : Type 0
DrawnSegmentsCanBeSeen =
    (before : List StepView) (step : StepView) → length before < most_steps → CanBeDrawn (segments_of before) (drawn before step)

-- It is what the step adds.
abbrev pub StepsAddWhatTheyDraw : Type 0
StepsAddWhatTheyDraw =
    (before : List StepView) (step : StepView) → segments_of (before ++ step ∷ []) ≡ segments_of before ++ drawn before step
