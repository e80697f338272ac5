use Rattle.std.proofs.Common.{replicate}
use Rattle.std.specs.List.{concat}
use Rattle.t1_io.specs.Devices.{Wrote}
use Rattle.t1_answer_all.specs.Telling.{undecoded_line}
use Rattle.t1_answer_all.proofs.telling.tell_undecoded.Given as goal

abbrev pub invariant-loop-time : goal.invariant-loop-time
invariant-loop-time g l = Wrote (g.E.Sink.state l.fn.errors) (g.E.Sink.state l.errors) (concat (replicate l._time undecoded_line))
