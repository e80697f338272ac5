use Rattle.std.proofs.Common.{take}
use Rattle.t1_io.specs.Devices.{Wrote}
use Rattle.t1_many.proofs.unchecked.put_in_one_line.Given as goal
use Rattle.t1_many.specs.Unchecked.{in_one_line}

abbrev pub invariant-loop-byte : goal.invariant-loop-byte
invariant-loop-byte g l = Wrote (g.W.Sink.state l.fn.sink) (g.W.Sink.state l.sink) (in_one_line (take l.byte-index l.byte-items))
