use Rattle.t1_report.proofs.LaterFaults.{the_report}
use Rattle.t1_report.proofs.laws.faults_after_the_first_mark_are_the_report.Goals as goal

pub returns : goal.returns
returns c = the_report
