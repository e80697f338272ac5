-- Where a stem that nothing touches is set, and what is drawn nearest to it: H08. Type 1 Font Format 1.1, chapter 5.
use Rattle.std.specs.Prelude.{ℕ, ℤ, ◌-ℤ◌, unsigned_abs, ◌&&◌, min, nat_lt, if◌then◌else◌, Bool, Option, Some, None, List, [], ◌∷◌, ◌++◌, is_some}
use Rattle.std.specs.List.{flat_map, fold, list_any}
use Rattle.std.specs.Ordering.{int_eq}
use Rattle.t1_char.specs.Since.{Test}
use Rattle.t1_char.specs.Steps.{StepView}
use Rattle.t1_drawing.specs.declared.direction.Direction.{Direction}
use Rattle.t1_drawing.specs.declared.segments.TracedSegment.{TracedSegment}
use Rattle.t1_drawing.specs.declared.touching.UntouchedStem.{UntouchedStem}
use Rattle.t1_drawing.specs.Strokes.{Stroke, strokes_at}
use Rattle.t1_drawing.specs.Touching.{coordinate, high_edge, low_edge, sidebearing_point, stems_set}
use Rattle.t1_outline.specs.declared.segment.Segment.{Segment}
use Rattle.t1_outline.specs.declared.segment.Segment.TheVariants.{Line, Curve}
use Rattle.t1_rules.specs.declared.step_rules.flex.Point.{Point}
use Rattle.t1_rules.specs.declared.step_rules.stems.Stem.{Stem}
use Rattle.t1_reasons.specs.Carried.{carried_over, first_such}

-- A step sets a stem of these edges, in this direction. Edges are counted from the sidebearing point.
abbrev pub has_edges : UntouchedStem → ℤ → Stem → Bool
has_edges stem start own = int_eq stem.low (low_edge start own) && int_eq stem.high (high_edge start own)

abbrev pub sets_from : UntouchedStem → Point → StepView → Bool
sets_from stem sidebearing step = list_any (has_edges stem (coordinate stem.direction sidebearing)) (stems_set stem.direction step)

abbrev pub sets : UntouchedStem → Test
sets stem before step = sets_from stem (sidebearing_point before) step

-- The number of the first step that sets it.
abbrev pub set_first : UntouchedStem → List StepView → Option ℕ
set_first stem steps = first_such (sets stem) steps

-- Where a line or a curve begins and ends, in the coordinate of a direction, if it is known where it begins.
abbrev pub stroke_end : Segment → Option Point
stroke_end (Line end) = Some end
stroke_end (Curve one two end) = Some end
stroke_end _ = None

abbrev pub both_ends : Direction → Option Point → Option Point → List ℤ
both_ends direction (Some start) (Some end) = coordinate direction start ∷ coordinate direction end ∷ []
both_ends direction _ _ = []

abbrev pub ends_of : Direction → Stroke → List ℤ
ends_of direction stroke = both_ends direction stroke.start (stroke_end stroke.segment)

abbrev pub ends_of_traced : Direction → TracedSegment → List ℤ
ends_of_traced direction traced = both_ends direction traced.start (stroke_end traced.segment)

-- The ends of what is drawn after the stem was set, in order.
abbrev pub ends_at : Direction → List StepView → StepView → List ℤ
ends_at direction before step = flat_map (ends_of direction) (strokes_at before step)

abbrev pub ends_on : UntouchedStem → List ℤ → List StepView → StepView → List ℤ
ends_on stem ends before step = if is_some (set_first stem before) then ends ++ ends_at stem.direction before step else ends

abbrev pub later_ends : UntouchedStem → List StepView → List ℤ
later_ends stem steps = carried_over (ends_on stem) [] steps

-- How far a coordinate is from the nearer edge.
abbrev pub distance : UntouchedStem → ℤ → ℕ
distance stem place = min (unsigned_abs (place -ℤ stem.low)) (unsigned_abs (place -ℤ stem.high))

abbrev pub nearer : UntouchedStem → Option ℤ → ℤ → Option ℤ
nearer stem None place = Some place
nearer stem (Some best) place = Some (if nat_lt (distance stem place) (distance stem best) then place else best)

abbrev pub nearer_end : UntouchedStem → Option ℤ → TracedSegment → Option ℤ
nearer_end stem best traced = fold (nearer stem) best (ends_of_traced stem.direction traced)

-- The nearest of them, the first of these.
abbrev pub nearest_end : UntouchedStem → List StepView → Option ℤ
nearest_end stem steps = fold (nearer stem) None (later_ends stem steps)
