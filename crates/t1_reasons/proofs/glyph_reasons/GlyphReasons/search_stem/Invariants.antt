use Rattle.std.proofs.Common.{◌≡◌, take}
use Rattle.t1_reasons.specs.GlyphReasons.{IsOfSameGlyph, steps_in}
use Rattle.t1_reasons.specs.Private.Searching.{StemSearched}
use Rattle.t1_reasons.proofs.glyph_reasons.GlyphReasons.search_stem.Given as goal

abbrev pub invariant-loop-seen : goal.invariant-loop-seen
invariant-loop-seen l = record {
  same : IsOfSameGlyph l.fn.self l.run;
  counted : l.run.counted ≡ l.seen;
  searched : StemSearched l.fn.stem l.search (take l.seen (steps_in l.fn.self));
}
