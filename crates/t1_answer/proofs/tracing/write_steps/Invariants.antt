use Rattle.std.proofs.Common.{◌+◌, ◌-◌}
use Rattle.t1_char.specs.Editions.{limit_of}
use Rattle.t1_char.proofs.TurnsTaken.{Executes}
use Rattle.t1_char.specs.Steps.{steps_of}
use Rattle.t1_io.specs.Devices.{Wrote}
use Rattle.t1_answer.proofs.TraceLemmas.{lines_to}
use Rattle.t1_answer.proofs.tracing.write_steps.Given as goal

abbrev pub invariant-loop-step : goal.invariant-loop-step
invariant-loop-step g l = record {
  same : Executes l.fn.machine.edition l.fn.machine.font l.fn.machine.glyph l.machine;
  wrote : Wrote (g.W.Sink.state l.fn.sink) (g.W.Sink.state l.sink)
      (lines_to (limit_of l.fn.machine.edition) (steps_of l.fn.machine.font l.fn.machine.glyph) l.machine.counted);
}

abbrev pub decreases-loop-step : goal.decreases-loop-step
decreases-loop-step g l = limit_of l.fn.machine.edition + 1 - l.machine.counted
