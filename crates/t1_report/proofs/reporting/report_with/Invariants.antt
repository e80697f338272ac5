use Rattle.std.proofs.Common.{◌≡◌, ◌-◌, length}
use Rattle.t1_report.specs.Checked.{checked}
use Rattle.t1_report.specs.Faults.{faults_of}
use Rattle.t1_report.proofs.GivenFaults.{IsGiven}
use Rattle.t1_report.proofs.HasReport.{has_report}
use Rattle.t1_report.proofs.reporting.report_with.Given as goal

abbrev pub invariant-loop-fault : goal.invariant-loop-fault
invariant-loop-fault l = record {
  font : l.walk.font ≡ checked l.fn.font l.fn.sidebearings.edition;
  waivers : l.walk.waivers ≡ l.fn.waivers;
  given : IsGiven (checked l.fn.font l.fn.sidebearings.edition) l.fn.waivers (faults_of l.faults.items) (length l.faults.items) l.walk.mark;
}

abbrev pub decreases-loop-fault : goal.decreases-loop-fault
decreases-loop-fault l = length (has_report (checked l.fn.font l.fn.sidebearings.edition) l.fn.waivers).0 - length l.faults.items
