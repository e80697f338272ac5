use Rattle.std.proofs.Common.{flat_map, take}
use Rattle.t1_forms.proofs.commands.put_escaped.Given as goal
use Rattle.t1_forms.specs.Private.Escapes.{byte_in}
use Rattle.t1_io.specs.Devices.{Wrote}

abbrev pub invariant-loop-byte : goal.invariant-loop-byte
invariant-loop-byte g l = record {
  wrote : Wrote (g.W.Sink.state l.fn.sink) (g.W.Sink.state l.sink) (flat_map (byte_in l.part) (take l.byte-index l.text));
}
