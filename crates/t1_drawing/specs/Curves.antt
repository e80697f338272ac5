-- Curves that are straight, and curves that go beyond their ends: Type 1 Font Format 1.1, chapter 3 (conciseness, points at extremes).
use Rattle.std.specs.Prelude.{ℕ, ℤ, pos, ◌+ℤ◌, ◌*ℤ◌, ◌*◌, ◌&&◌, ◌||◌, not, int_le, Bool, false, Option, Some}
use Rattle.t1_outline.specs.declared.segment.Segment.{Segment}
use Rattle.t1_outline.specs.declared.segment.Segment.TheVariants.{Curve}
use Rattle.t1_rules.specs.declared.step_rules.flex.Point.{Point}
use Rattle.t1_drawing.specs.Points.{is_on_line, is_same}
use Rattle.t1_drawing.specs.Segments.{Test, start_after}

-- P09: the ends of a curve are two points, and both control points are on the straight line through them.
abbrev pub is_flat_from : Option Point → Segment → Bool
is_flat_from (Some start) (Curve one two end) = not (is_same start end) && (is_on_line start end one && is_on_line start end two)
is_flat_from _ _ = false

abbrev pub is_flat : Test
is_flat before s = is_flat_from (start_after before) s

-- A coordinate of a curve at 1/4 and at 1/2 of its parameter, 64 times: by that of its start, its control points and its end.
unfoldable pub at_quarter : ℤ → ℤ → ℤ → ℤ → ℤ
at_quarter start one two end = pos 27 *ℤ (start +ℤ one) +ℤ (pos 9 *ℤ two +ℤ end)

unfoldable pub at_half : ℤ → ℤ → ℤ → ℤ → ℤ
at_half start one two end = pos 8 *ℤ (start +ℤ end) +ℤ pos 24 *ℤ (one +ℤ two)

-- Three units of character space, in units of 1/65536, 64 times.
abbrev pub three_units : ℕ
three_units = 64 * (3 * 65536)

-- A place is three units or more above another, or below it. All 64 times.
abbrev pub is_above : ℤ → ℤ → Bool
is_above other place = int_le (other +ℤ pos three_units) place

abbrev pub is_below : ℤ → ℤ → Bool
is_below other place = int_le (place +ℤ pos three_units) other

-- It is so far above both ends, or below both.
unfoldable pub is_beyond : ℤ → ℤ → ℤ → Bool
is_beyond start end place =
    (is_above (pos 64 *ℤ start) place && is_above (pos 64 *ℤ end) place)
    || (is_below (pos 64 *ℤ start) place && is_below (pos 64 *ℤ end) place)

abbrev pub is_beyond_at_quarter : ℤ → ℤ → ℤ → ℤ → Bool
is_beyond_at_quarter start one two end = is_beyond start end (at_quarter start one two end)

abbrev pub is_beyond_at_half : ℤ → ℤ → ℤ → ℤ → Bool
is_beyond_at_half start one two end = is_beyond start end (at_half start one two end)

-- At 1/4, 1/2 or 3/4 the coordinate is beyond both ends. 3/4 is 1/4 from the other end.
abbrev pub goes_beyond : ℤ → ℤ → ℤ → ℤ → Bool
goes_beyond start one two end =
    is_beyond_at_quarter start one two end || is_beyond_at_half start one two end || is_beyond_at_quarter end two one start

-- P10: a curve has an extreme between its ends, in x or in y.
abbrev pub lacks_extreme_from : Option Point → Segment → Bool
lacks_extreme_from (Some start) (Curve one two end) =
    goes_beyond start.x one.x two.x end.x || goes_beyond start.y one.y two.y end.y
lacks_extreme_from _ _ = false

abbrev pub lacks_extreme : Test
lacks_extreme before s = lacks_extreme_from (start_after before) s
