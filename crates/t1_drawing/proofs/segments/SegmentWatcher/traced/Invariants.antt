use Rattle.std.proofs.Common.{◌≡◌, ◌≤◌, Option, List, ◌++◌, length, take}
use Rattle.t1_outline.specs.declared.segment.Segment.{Segment}
use Rattle.t1_drawing.specs.declared.font_box.FontBox.{FontBox}
use Rattle.t1_drawing.specs.Bounds.{CanBeDrawn, most_drawn}
use Rattle.t1_drawing.specs.Drawings.{traced}
use Rattle.t1_drawing.specs.Private.Standing.{SegmentsStandFor}
use Rattle.t1_drawing.proofs.segments.SegmentWatcher.traced.Given as goal

abbrev pub invariant-loop-segment : goal.invariant-loop-segment
invariant-loop-segment l = record {
  stands : (box : Option FontBox) (before : List Segment) → SegmentsStandFor box l.fn.self before → CanBeDrawn before l.here
      → SegmentsStandFor box l.watcher (before ++ take l.segment-index l.here);
  traced : (box : Option FontBox) (before : List Segment) → SegmentsStandFor box l.fn.self before → CanBeDrawn before l.here
      → length l.here ≤ most_drawn → l.segments.items ≡ traced box before (take l.segment-index l.here);
}
