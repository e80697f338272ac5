use Rattle.std.proofs.Common.{◌≡◌, drop}
use Rattle.t1_picture.specs.Layers.{layers_view, with_segments}
use Rattle.t1_picture.proofs.layers.Layers.draw_all.Given as goal

abbrev pub invariant-loop-segment : goal.invariant-loop-segment
invariant-loop-segment l =
    with_segments l.origin l.is_thick (layers_view l.self) (drop l.segment-index l.segments)
    ≡ with_segments l.origin l.is_thick (layers_view l.fn.self) l.segments
