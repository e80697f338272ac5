-- Segments of no length, and lines that should be one: Type 1 Font Format 1.1, chapter 3 (conciseness).
use Rattle.std.specs.Prelude.{pos, ◌&&◌, int_lt, Bool, false, Option, Some}
use Rattle.std.specs.Ordering.{int_eq}
use Rattle.t1_outline.specs.declared.segment.Segment.{Segment}
use Rattle.t1_outline.specs.declared.segment.Segment.TheVariants.{Line, Curve}
use Rattle.t1_rules.specs.declared.step_rules.flex.Point.{Point}
use Rattle.t1_drawing.specs.Points.{cross, dot, is_same, way}
use Rattle.t1_drawing.specs.Segments.{Test, line_start_before, start_after}

-- P06: all points of a line or a curve are equal.
abbrev pub has_no_length_from : Option Point → Segment → Bool
has_no_length_from (Some start) (Line end) = is_same start end
has_no_length_from (Some start) (Curve one two end) = is_same start one && is_same start two && is_same start end
has_no_length_from _ _ = false

abbrev pub has_no_length : Test
has_no_length before s = has_no_length_from (start_after before) s

-- The second way leads straight back, or straight on. Then neither has no length.
abbrev pub leads_back : Point → Point → Bool
leads_back one other = int_eq (cross one other) (pos 0) && int_lt (dot one other) (pos 0)

abbrev pub leads_on : Point → Point → Bool
leads_on one other = int_eq (cross one other) (pos 0) && int_lt (pos 0) (dot one other)

-- Two lines, one right after the other, by their ways.
abbrev pub two_lines : (Point → Point → Bool) → Option Point → Option Point → Segment → Bool
two_lines test (Some start) (Some middle) (Line end) = test (way start middle) (way middle end)
two_lines test _ _ _ = false

-- P07: a line turns back on the line right before it.
abbrev pub turns_back : Test
turns_back before s = two_lines leads_back (line_start_before before) (start_after before) s

-- P08: a line goes straight on from the line right before it.
abbrev pub goes_straight_on : Test
goes_straight_on before s = two_lines leads_on (line_start_before before) (start_after before) s
