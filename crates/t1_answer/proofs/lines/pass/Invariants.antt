use Rattle.std.proofs.Common.{◌≡◌, List}
use Rattle.t1_report.specs.Faults.{FaultValue}
use Rattle.t1_report.specs.Reports.{IsReport}
use Rattle.t1_report.specs.Walks.{IsSoFar}
use Rattle.t1_answer.proofs.lines.pass.Given as goal

abbrev pub invariant-loop-fault : goal.invariant-loop-fault
invariant-loop-fault l = record {
  font : l.walk.font ≡ l.fn.walk.font;
  waivers : l.walk.waivers ≡ l.fn.walk.waivers;
  passed : (faults : List FaultValue) → IsReport l.fn.walk.font l.fn.walk.waivers faults → IsSoFar faults 0 l.fn.walk.mark
      → IsSoFar faults l._fault l.walk.mark;
}
