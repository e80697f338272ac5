use Rattle.std.proofs.Common.{◌≡◌, IfSome, option_map}
use Rattle.t1_report.specs.Checked.{checked}
use Rattle.t1_report.specs.Faults.{fault_value}
use Rattle.t1_report.specs.Lines.{IsInFont}
use Rattle.t1_report.specs.Numbered.{numbered}
use Rattle.t1_report.specs.Walks.{IsSoFar}
use Rattle.t1_report.proofs.HasReport.{has_report}
use Rattle.t1_report.proofs.reporting.fault_numbered.Given as goal

abbrev pub invariant-loop-count : goal.invariant-loop-count
invariant-loop-count l = record {
  font : l.walk.font ≡ checked l.font l.sidebearings.edition;
  waivers : l.walk.waivers ≡ l.waivers;
  so_far : IsSoFar (has_report (checked l.font l.sidebearings.edition) l.waivers).0 l._count l.walk.mark;
  fault : option_map fault_value l.fault ≡ numbered (has_report (checked l.font l.sidebearings.edition) l.waivers).0 l._count;
  in_font : IfSome l.fault (λ fault. IsInFont l.font l.waivers (fault_value fault));
}
