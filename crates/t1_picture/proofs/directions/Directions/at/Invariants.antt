use Rattle.std.proofs.Common.{◌≡◌}
use Rattle.t1_picture.specs.Private.Runs.{IsOfSameGlyph}
use Rattle.t1_picture.proofs.directions.Directions.at.Given as goal

abbrev pub invariant-loop-step : goal.invariant-loop-step
invariant-loop-step l = record {
  same : IsOfSameGlyph l.fn.self l.self;
  counted : l.self.counted ≡ l._step;
}
