use Rattle.std.proofs.Common.{take}
use Rattle.t1_io.specs.Devices.{Wrote, whole_of}
use Rattle.t1_io.proofs.writing.put_parts.Given as goal

abbrev pub invariant-loop-part : goal.invariant-loop-part
invariant-loop-part g l = record {
  wrote : Wrote (g.W.Sink.state l.fn.sink) (g.W.Sink.state l.sink) (whole_of (take l.part-index l.parts));
}
