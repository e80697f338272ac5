use Rattle.std.proofs.Common.{◌≡◌}
use Rattle.t1_many.proofs.ReportLines.{HaveGone}
use Rattle.t1_many.proofs.handing.hand_lines.Given as goal
use Rattle.t1_report.specs.Checked.{checked}

abbrev pub invariant-loop-fault : goal.invariant-loop-fault
invariant-loop-fault g l = record {
  font : l.walk.font ≡ checked l.font l.sidebearings.edition;
  waivers : l.walk.waivers ≡ l.waivers;
  reasons : l.reasons ≡ checked l.font l.sidebearings.edition;
  gone : HaveGone (g.J.Judge.judges l.judge l.font l.waivers) l.name (checked l.font l.sidebearings.edition) l.waivers g.F.Printer.takes
      l._fault l.walk.mark l.fn.printer l.printer l.found;
}
