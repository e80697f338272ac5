use Rattle.std.proofs.Common.{refl}
use Rattle.t1_answer_all.proofs.RunEnds.{run_ends}
use Rattle.t1_answer_all.proofs.running.run.Goals as goal
use Rattle.t1_run.specs.Opening.{sinks_by}

pub returns : goal.returns
returns g c =
    run_ends _ _ (sinks_by g.W.Sink.state g.E.Sink.state c.write_fonts-written.result.output) _ _ _
    c.write_fonts-written.ensures c.conclude_written-value.ensures refl
