use Rattle.std.proofs.Common.{◌≡◌, Some, map, take, true}
use Rattle.t1_drawing.specs.Private.Watching.{all_touched, touched_by}
use Rattle.t1_drawing.proofs.Mapped.{mapped_to}
use Rattle.t1_drawing.proofs.touching.touch_all.Given as goal

abbrev pub invariant-loop-stem : goal.invariant-loop-stem
invariant-loop-stem l = record {
  stems : l.stems ≡ mapped_to (touched_by (Some l.fn.extent)) l.stem-index l.fn.stems;
  all : l.all ≡ true → all_touched (map (touched_by (Some l.fn.extent)) (take l.stem-index l.fn.stems)) ≡ true;
}
