-- What the segments of a step break, after those that were drawn before.
use Rattle.std.specs.Prelude.{Option, List, [], ◌∷◌, ◌++◌}
use Rattle.t1_outline.specs.declared.segment.Segment.{Segment}
use Rattle.t1_drawing.specs.declared.faults.SegmentFaults.{SegmentFaults}
use Rattle.t1_drawing.specs.declared.font_box.FontBox.{FontBox}
use Rattle.t1_drawing.specs.declared.segments.TracedSegment.{TracedSegment}
use Rattle.t1_drawing.specs.Curves.{is_flat, lacks_extreme}
use Rattle.t1_drawing.specs.FontBoxes.{is_first_outside}
use Rattle.t1_drawing.specs.Lines.{goes_straight_on, has_no_length, turns_back}
use Rattle.t1_drawing.specs.Segments.{line_start_before, one_in, start_after}

-- A rule is broken where one of the segments breaks it, each given those before it.
abbrev pub faults_in : Option FontBox → List Segment → List Segment → SegmentFaults
faults_in box before here = record {
  is_outside = one_in (is_first_outside box) before here;
  has_no_length = one_in has_no_length before here;
  turns_back = one_in turns_back before here;
  goes_straight_on = one_in goes_straight_on before here;
  is_flat = one_in is_flat before here;
  lacks_extreme = one_in lacks_extreme before here;
}

-- What one segment breaks.
abbrev pub faults_at : Option FontBox → List Segment → Segment → SegmentFaults
faults_at box before s = record {
  is_outside = is_first_outside box before s;
  has_no_length = has_no_length before s;
  turns_back = turns_back before s;
  goes_straight_on = goes_straight_on before s;
  is_flat = is_flat before s;
  lacks_extreme = lacks_extreme before s;
}

-- What a step draws, each segment with where it begins, where the line right before it begins, and what it breaks.
abbrev pub traced_at : Option FontBox → List Segment → Segment → TracedSegment
traced_at box before s = record {
  line_start = line_start_before before;
  start = start_after before;
  segment = s;
  faults = faults_at box before s;
}

abbrev pub traced : Option FontBox → List Segment → List Segment → List TracedSegment
traced box before [] = []
traced box before (s ∷ here) = traced_at box before s ∷ traced box (before ++ s ∷ []) here
