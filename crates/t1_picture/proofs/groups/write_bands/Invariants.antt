use Rattle.std.proofs.Common.{◌≡◌, ◌++◌, string_bytes, take}
use Rattle.std.specs.List.{flat_map}
use Rattle.t1_picture.specs.Bands.{band_text}
use Rattle.t1_picture.proofs.groups.write_bands.Given as goal

abbrev pub invariant-loop-band : goal.invariant-loop-band
invariant-loop-band l = string_bytes l.svg ≡ string_bytes l.fn.svg ++ flat_map (band_text l.frame) (take l.band-index l.bands)
