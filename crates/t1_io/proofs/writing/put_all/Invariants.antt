use Rattle.std.proofs.Common.{length, ◌-◌, take, ◌≤◌}
use Rattle.t1_io.specs.Devices.{Wrote}
use Rattle.t1_io.proofs.writing.put_all.Given as goal

abbrev pub invariant-loop-at : goal.invariant-loop-at
invariant-loop-at g l = record {
  within : l.at ≤ length l.bytes;
  wrote : Wrote (g.W.Sink.state l.fn.sink) (g.W.Sink.state l.sink) (take l.at l.bytes);
}

abbrev pub decreases-loop-at : goal.decreases-loop-at
decreases-loop-at g l = length l.bytes - l.at
