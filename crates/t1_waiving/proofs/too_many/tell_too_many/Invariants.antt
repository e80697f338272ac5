use Rattle.std.proofs.Common.{◌≡◌, take}
use Rattle.std.specs.List.{flat_map}
use Rattle.t1_io.specs.Devices.{Wrote}
use Rattle.t1_waiving.proofs.TooManyTold.{line_told, status_told}
use Rattle.t1_waiving.proofs.too_many.tell_too_many.Given as goal

abbrev pub invariant-loop-font : goal.invariant-loop-font
invariant-loop-font g l = record {
  wrote : Wrote (g.W.Sink.state l.fn.errors) (g.W.Sink.state l.errors) (flat_map line_told (take l.font-index l.fonts));
  status_is : l.status ≡ status_told (take l.font-index l.fonts);
}
