use Rattle.std.proofs.Common.{◌≡◌}
use Rattle.t1_reasons.specs.GlyphReasons.{IsOfSameGlyph}
use Rattle.t1_reasons.proofs.glyph_reasons.GlyphReasons.go_to.Given as goal

abbrev pub invariant-loop-step : goal.invariant-loop-step
invariant-loop-step l = record {
  same : IsOfSameGlyph l.fn.self l.self;
  counted : l.self.counted ≡ l._step;
}
