use Rattle.t1_report.proofs.LaterFaults.{the_rest}
use Rattle.t1_report.proofs.laws.faults_after_a_mark_are_the_rest.Goals as goal

pub returns : goal.returns
returns c = the_rest
