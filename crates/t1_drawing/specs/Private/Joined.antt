-- What segments break together, and what a step does.
use Rattle.std.specs.Prelude.{◌||◌, not, Bool, false, Option, List}
use Rattle.t1_char.specs.Steps.{StepView}
use Rattle.t1_outline.specs.Outlines.{drawn}
use Rattle.t1_drawing.specs.declared.faults.SegmentFaults.{SegmentFaults}
use Rattle.t1_drawing.specs.declared.glyph.DrawingFaults.{DrawingFaults}
use Rattle.t1_drawing.specs.declared.font_box.FontBox.{FontBox}
use Rattle.t1_drawing.specs.DrawingRules.{ends_clockwise, ends_untouched}
use Rattle.t1_drawing.specs.Drawings.{faults_in}
use Rattle.t1_drawing.specs.Moves.{moves_again}
use Rattle.t1_drawing.specs.StemEdges.{sets_adjacent, sets_negative_width}
use Rattle.t1_drawing.specs.Strokes.{segments_of}

abbrev pub no_faults : SegmentFaults
no_faults = record {
  is_outside = false;
  has_no_length = false;
  turns_back = false;
  goes_straight_on = false;
  is_flat = false;
  lacks_extreme = false;
}

abbrev pub joined : SegmentFaults → SegmentFaults → SegmentFaults
joined one other = record {
  is_outside = one.is_outside || other.is_outside;
  has_no_length = one.has_no_length || other.has_no_length;
  turns_back = one.turns_back || other.turns_back;
  goes_straight_on = one.goes_straight_on || other.goes_straight_on;
  is_flat = one.is_flat || other.is_flat;
  lacks_extreme = one.lacks_extreme || other.lacks_extreme;
}

abbrev pub drawing_faults : Option FontBox → List StepView → StepView → DrawingFaults
drawing_faults box before step = record {
  segments = faults_in box (segments_of before) (drawn before step);
  ends_clockwise = ends_clockwise before step;
  moves_again = moves_again before step;
  ends_untouched = ends_untouched before step;
  sets_adjacent = sets_adjacent before step;
  sets_negative_width = sets_negative_width step;
}

abbrev pub are_some : SegmentFaults → Bool
are_some faults =
    faults.is_outside || faults.has_no_length || faults.turns_back || faults.goes_straight_on || faults.is_flat || faults.lacks_extreme

abbrev pub are_none : DrawingFaults → Bool
are_none faults =
    not (are_some faults.segments || faults.ends_clockwise || faults.moves_again || faults.ends_untouched || faults.sets_adjacent
    || faults.sets_negative_width)
