use Rattle.std.proofs.Common.{flat_map, take}
use Rattle.t1_io.specs.Devices.{Wrote}
use Rattle.t1_summary.proofs.lines.put_rules.Given as goal
use Rattle.t1_summary.specs.Private.Lines.{told_line}

abbrev pub invariant-loop-rule : goal.invariant-loop-rule
invariant-loop-rule g l = record {
  wrote : Wrote (g.W.Sink.state l.fn.sink) (g.W.Sink.state l.sink) (flat_map (told_line l.tally) (take l.rule-index l.rule-items));
}
