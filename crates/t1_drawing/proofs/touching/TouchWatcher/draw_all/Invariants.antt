use Rattle.std.proofs.Common.{◌≡◌, drop}
use Rattle.t1_drawing.specs.Private.Watching.{IsDone, drawing_in, draws_on}
use Rattle.t1_drawing.proofs.touching.TouchWatcher.draw_all.Given as goal

abbrev pub invariant-loop-segment : goal.invariant-loop-segment
invariant-loop-segment l = record {
  drawing : draws_on (drawing_in l.self) (drop l.segment-index l.segments) ≡ draws_on (drawing_in l.fn.self) l.segments;
  sidebearing : l.self.sidebearing ≡ l.fn.self.sidebearing;
  done : IsDone l.self;
}
