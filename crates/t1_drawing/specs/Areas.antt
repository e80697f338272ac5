-- The signed area of a drawing: above 0 where its subpaths run anticlockwise, as outer contours do. Type 1 Font Format 1.1, chapter 3 (direction).
use Rattle.std.specs.Prelude.{ℕ, ℤ, pos, negsuc, ◌+ℤ◌, ◌*ℤ◌, ◌*◌, ◌-◌, ◌&&◌, int_le, int_lt, if◌then◌else◌, Bool, true, Option, Some, None, List, [], ◌∷◌}
use Rattle.std.specs.List.{list_all}
use Rattle.t1_outline.specs.declared.segment.Segment.{Segment}
use Rattle.t1_outline.specs.declared.segment.Segment.TheVariants.{Move, Line, Curve, Close}
use Rattle.t1_rules.specs.declared.step_rules.flex.Point.{Point}
use Rattle.t1_rules.specs.StepRules.Flex.{origin}
use Rattle.t1_drawing.specs.Points.{cross}

-- Twenty times the signed area between the origin and a line.
unfoldable pub line_area : Point → Point → ℤ
line_area start end = pos 10 *ℤ cross start end

-- That between the origin and a curve, by its four points.
unfoldable pub curve_area : Point → Point → Point → Point → ℤ
curve_area start one two end =
    pos 6 *ℤ (cross start one +ℤ cross two end)
    +ℤ pos 3 *ℤ ((cross start two +ℤ cross one two) +ℤ cross one end)
    +ℤ cross start end

-- Twenty times the signed area of segments, where the subpath began at the first point, and the segment before ended at the second. A subpath is
-- closed by a line to where it began, at closepath, at the next move and at the end. After closepath a segment would begin there too.
abbrev pub area_from : Point → Point → List Segment → ℤ
area_from began start [] = line_area start began
area_from began start (Move p ∷ ss) = line_area start began +ℤ area_from p p ss
area_from began start (Line end ∷ ss) = line_area start end +ℤ area_from began end ss
area_from began start (Curve one two end ∷ ss) = curve_area start one two end +ℤ area_from began end ss
area_from began start (Close ∷ ss) = line_area start began +ℤ area_from began began ss

abbrev pub area_of : List Segment → ℤ
area_of segments = area_from origin origin segments

-- The area is asked for only where no coordinate is farther from 0 than 32000 units of character space. In units of 1/65536.
abbrev pub widest : ℕ
widest = 32000 * 65536

abbrev pub is_close_coordinate : ℤ → Bool
is_close_coordinate z = int_le (negsuc (32000 * 65536 - 1)) z && int_le z (pos widest)

abbrev pub is_close : Point → Bool
is_close p = is_close_coordinate p.x && is_close_coordinate p.y

-- All points of a segment are so close to the origin.
abbrev pub is_drawn_close : Segment → Bool
is_drawn_close (Move p) = is_close p
is_drawn_close (Line end) = is_close end
is_drawn_close (Curve one two end) = is_close one && is_close two && is_close end
is_drawn_close Close = true

-- The area, where it is asked for.
abbrev pub drawn_area : List Segment → Option ℤ
drawn_area segments = if list_all is_drawn_close segments then Some (area_of segments) else None

-- P05: the subpaths together run clockwise.
abbrev pub runs_clockwise : List Segment → Bool
runs_clockwise segments = list_all is_drawn_close segments && int_lt (area_of segments) (pos 0)
