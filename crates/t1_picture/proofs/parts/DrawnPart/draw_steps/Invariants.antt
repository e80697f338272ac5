use Rattle.std.proofs.Common.{◌≡◌}
use Rattle.t1_picture.specs.Private.PartViews.{IsRunOf, part_view, so_far}
use Rattle.t1_picture.proofs.PartSteps.{HasDrawn}
use Rattle.t1_picture.proofs.parts.DrawnPart.draw_steps.Given as goal

abbrev pub invariant-loop-step : goal.invariant-loop-step
invariant-loop-step l = record {
  run : IsRunOf (part_view l.self) l.run;
  counted : l.run.counted ≡ l._step;
  drawn : HasDrawn (part_view l.self) (so_far l.fn.layers l.fn.notes.items) (so_far l.layers l.notes.items) l.composition l._step;
}
