use Rattle.std.proofs.Common.{◌≡◌, drop}
use Rattle.t1_picture.specs.Pictures.{with_all_bands}
use Rattle.t1_picture.proofs.svg.widen_by_bands.Given as goal

abbrev pub invariant-loop-band : goal.invariant-loop-band
invariant-loop-band l = with_all_bands l.bounds (drop l.band-index l.bands) ≡ with_all_bands l.fn.bounds l.bands
