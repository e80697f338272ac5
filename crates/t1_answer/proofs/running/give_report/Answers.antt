use Rattle.t1_run.specs.Telling.Gives.{ungiven}
use Rattle.t1_answer.proofs.running.give_report.Goals as goal

pub returns-in-Err : goal.returns-in-Err
returns-in-Err g c faults report = ungiven (c.in-Err.ensures.delivers faults report) c.tell_write_failed.ensures
