-- Why a step breaks a rule on the drawing. Of rules on segments it is the first of the step's segments that breaks the rule, with what the rule
-- compares; of the others what the rule speaks of.
use Rattle.std.specs.Prelude.{ℕ, ℤ, ◌&&◌, if◌then◌else◌, Bool, false, Option, Some, None, find, option_map, List, [], ◌∷◌, ◌++◌}
use Rattle.std.specs.Option.{option_or, unwrap_or}
use Rattle.t1_char.specs.declared.edition.Edition.{Edition}
use Rattle.t1_char.specs.Editions.{has_latest_rules}
use Rattle.t1_char.specs.Steps.{StepView}
use Rattle.t1_drawing.specs.declared.direction.Direction.{Direction}
use Rattle.t1_drawing.specs.declared.direction.Direction.TheVariants.{Across, Upright}
use Rattle.t1_drawing.specs.declared.faults.SegmentFaults.{SegmentFaults}
use Rattle.t1_drawing.specs.declared.font_box.FontBox.{FontBox}
use Rattle.t1_drawing.specs.declared.segments.TracedSegment.{TracedSegment}
use Rattle.t1_drawing.specs.declared.touching.UntouchedStem.{UntouchedStem}
use Rattle.t1_drawing.specs.Areas.{drawn_area}
use Rattle.t1_drawing.specs.Curves.{at_half, at_quarter, is_beyond}
use Rattle.t1_drawing.specs.Drawings.{traced}
use Rattle.t1_drawing.specs.DrawingRules.{drawing_rules}
use Rattle.t1_drawing.specs.Strokes.{segments_of}
use Rattle.t1_drawing.specs.Touching.{coordinate, first_untouched}
use Rattle.t1_outline.specs.declared.segment.Segment.{Segment}
use Rattle.t1_outline.specs.declared.segment.Segment.TheVariants.{Curve}
use Rattle.t1_outline.specs.Laws.Points.{end_of}
use Rattle.t1_outline.specs.Outlines.{drawn}
use Rattle.t1_rules.specs.declared.rule.Rule.{Rule}
use Rattle.t1_rules.specs.declared.rule.Rule.TheVariants.{P04, P05, P06, P07, P08, P09, P10, P11, H08, H09, H10}
use Rattle.t1_rules.specs.declared.step_rules.flex.Point.{Point}
use Rattle.t1_rules.specs.Book.{number_of}
use Rattle.t1_rules.specs.StepRules.{breaks}
use Rattle.t1_rules.specs.StepRules.Paths.{outer_move}
use Rattle.t1_reasons.specs.declared.reason.Reason.{Reason}
use Rattle.t1_reasons.specs.declared.reason.Reason.TheVariants.{Area, Beyond, Nothing, Outside, Since, Stroke, Untouched}
use Rattle.t1_reasons.specs.declared.step_reasons.PairFlaw.TheVariants.{SharedEdge}
use Rattle.t1_reasons.specs.declared.step_reasons.StemFlaw.TheVariants.{Negative}
use Rattle.t1_reasons.specs.declared.reason.SubpathTurns.{SubpathTurns}
use Rattle.t1_reasons.specs.Carried.{last_such}
use Rattle.t1_reasons.specs.StemSearches.{nearest_end, set_first}
use Rattle.t1_reasons.specs.StepReasons.{is_flawed, is_flawed_pair, single_stems_at, stems_at}
use Rattle.t1_reasons.specs.SubpathTurns.{turns_of}

abbrev pub or_nothing : Option Reason → Reason
or_nothing reason = unwrap_or reason Nothing

-- ---- segments

-- Which fault of a segment a rule speaks of.
abbrev pub fault_of : Rule → SegmentFaults → Bool
fault_of P04 faults = faults.is_outside
fault_of P06 faults = faults.has_no_length
fault_of P07 faults = faults.turns_back
fault_of P08 faults = faults.goes_straight_on
fault_of P09 faults = faults.is_flat
fault_of P10 faults = faults.lacks_extreme
fault_of _ faults = false

abbrev pub breaks_rule : Rule → TracedSegment → Bool
breaks_rule rule s = fault_of rule s.faults

-- P04: where it ends, and FontBBox.
abbrev pub outside_of : Option FontBox → Option Point → Reason
outside_of (Some box) (Some p) = Outside p box
outside_of _ _ = Nothing

-- P10: a coordinate of the curve at 1/4, 1/2 and 3/4 of its parameter, 64 times, beside those of its ends; x before y. The first that is beyond.
abbrev pub beyond_at : Direction → ℕ → ℤ → ℤ → ℤ → Reason
beyond_at direction quarters start end place = Beyond direction quarters place start end

abbrev pub beyonds_along : Direction → ℤ → ℤ → ℤ → ℤ → List Reason
beyonds_along direction start one two end =
    beyond_at direction 1 start end (at_quarter start one two end)
    ∷ beyond_at direction 2 start end (at_half start one two end)
    ∷ beyond_at direction 3 start end (at_quarter end two one start) ∷ []

abbrev pub beyonds : Direction → Point → Point → Point → Point → List Reason
beyonds d start one two end = beyonds_along d (coordinate d start) (coordinate d one) (coordinate d two) (coordinate d end)

abbrev pub are_beyond : Reason → Bool
are_beyond (Beyond direction quarters place start end) = is_beyond start end place
are_beyond _ = false

abbrev pub first_beyond : Point → Point → Point → Point → Option Reason
first_beyond start one two end =
    option_or (find are_beyond (beyonds Upright start one two end)) (find are_beyond (beyonds Across start one two end))

abbrev pub beyond_of : Option Point → Segment → Reason
beyond_of (Some start) (Curve one two end) =
    or_nothing (first_beyond start one two end)
beyond_of _ _ = Nothing

abbrev pub told_of_segment : Option FontBox → Rule → TracedSegment → Reason
told_of_segment box P04 s = outside_of box (end_of s.segment)
told_of_segment box P10 s = beyond_of s.start s.segment
told_of_segment box _ s = Stroke s.line_start s.start s.segment

abbrev pub told_of_segments : Option FontBox → Rule → List TracedSegment → Reason
told_of_segments box rule segments = or_nothing (option_map (told_of_segment box rule) (find (breaks_rule rule) segments))

-- ---- the end of a glyph

abbrev pub area_of_drawing : Option ℤ → SubpathTurns → Reason
area_of_drawing None turns = Nothing
area_of_drawing (Some twentyfold) turns = Area twentyfold turns

abbrev pub stem_told : UntouchedStem → Option ℕ → Option ℤ → Reason
stem_told stem step nearest = Untouched stem (unwrap_or step 0) nearest

abbrev pub stem_left : Option UntouchedStem → List StepView → Reason
stem_left None steps = Nothing
stem_left (Some stem) steps = stem_told stem (set_first stem steps) (nearest_end stem steps)

-- ---- steps alone

abbrev pub told_of_steps : Rule → List StepView → StepView → Reason
told_of_steps P11 before step = Since (last_such outer_move before)
told_of_steps H09 before step = or_nothing (find (is_flawed_pair SharedEdge) (stems_at before step))
told_of_steps H10 before step = or_nothing (find (is_flawed Negative) (single_stems_at step))
told_of_steps _ before step = Nothing

-- ---- all of them

-- The end of a glyph draws nothing and sets no stem.
abbrev pub told_on_drawing : Option FontBox → Rule → List StepView → StepView → Reason
told_on_drawing box P05 before step = area_of_drawing (drawn_area (segments_of (before ++ step ∷ []))) (turns_of (before ++ step ∷ []))
told_on_drawing box H08 before step = stem_left (first_untouched (before ++ step ∷ [])) (before ++ step ∷ [])
told_on_drawing box P11 before step = told_of_steps P11 before step
told_on_drawing box H09 before step = told_of_steps H09 before step
told_on_drawing box H10 before step = told_of_steps H10 before step
told_on_drawing box rule before step = told_of_segments box rule (traced box (segments_of before) (drawn before step))

-- Rules on the drawing tell where they are broken.
abbrev pub drawing_reason : Edition → Option FontBox → Rule → List StepView → StepView → Option Reason
drawing_reason edition box rule before step =
    if has_latest_rules edition && breaks (drawing_rules box) (number_of rule) before step then Some (told_on_drawing box rule before step) else None
