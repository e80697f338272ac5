use Rattle.std.proofs.Common.{◌≡◌, Option, List, ◌++◌, take}
use Rattle.t1_outline.specs.declared.segment.Segment.{Segment}
use Rattle.t1_drawing.specs.declared.font_box.FontBox.{FontBox}
use Rattle.t1_drawing.specs.Bounds.{CanBeDrawn}
use Rattle.t1_drawing.specs.Drawings.{faults_in}
use Rattle.t1_drawing.specs.Private.Standing.{SegmentsStandFor}
use Rattle.t1_drawing.proofs.segments.SegmentWatcher.see.Given as goal

abbrev pub invariant-loop-segment : goal.invariant-loop-segment
invariant-loop-segment l = record {
  stands : (box : Option FontBox) (before : List Segment) → SegmentsStandFor box l.fn.self before → CanBeDrawn before l.here
      → SegmentsStandFor box l.self (before ++ take l.segment-index l.here);
  faults : (box : Option FontBox) (before : List Segment) → SegmentsStandFor box l.fn.self before → CanBeDrawn before l.here
      → l.faults ≡ faults_in box before (take l.segment-index l.here);
}
