use Rattle.std.proofs.Common.{◌≡◌, ◌^◌, ◌-◌, ℕ, List}
use Rattle.std.specs.Option.{unwrap_or}
use Rattle.t1_report.specs.Checked.{checked}
use Rattle.t1_report.specs.Faults.{FaultValue}
use Rattle.t1_report.specs.Reports.{IsReport}
use Rattle.t1_report.specs.Walks.{IsSoFar}
use Rattle.t1_answer.proofs.ChosenLines.{HaveGone}
use Rattle.t1_answer.proofs.lines.write_lines.Given as goal

abbrev pub invariant-loop-line : goal.invariant-loop-line
invariant-loop-line g l = record {
  font : l.walk.font ≡ checked l.font l.options.edition;
  waivers : l.walk.waivers ≡ l.waivers;
  gone : (faults : List FaultValue) (k : ℕ) → IsReport (checked l.font l.options.edition) l.waivers faults → IsSoFar faults k l.fn.walk.mark
      → HaveGone l.font l.waivers faults k (unwrap_or l.options.max (2 ^ 64 - 1)) l._line l.walk.mark (g.W.Sink.state l.fn.sink)
      (g.W.Sink.state l.sink) l.status;
}
