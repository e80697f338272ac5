use Rattle.std.proofs.Common.{◌≡◌, take}
use Rattle.t1_picture.specs.Layers.{layers_view, with_bands}
use Rattle.t1_picture.specs.Parts.{bands_of}
use Rattle.t1_picture.proofs.layers.Layers.add_stems.Given as goal

abbrev pub invariant-loop-stem : goal.invariant-loop-stem
invariant-loop-stem l =
    layers_view l.self ≡ with_bands (layers_view l.fn.self) (bands_of l.direction l.start l.edition (take l.stem-index l.stems))
