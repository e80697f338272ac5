use Rattle.t1_many.proofs.HandedReports.{all_handed, stopped_early}
use Rattle.t1_many.proofs.ReportLines.{lost_same}
use Rattle.t1_many.proofs.handing.hand_report.Goals as goal
use Rattle.t1_report.specs.Checked.{checked}

pub returns-in_err-found : goal.returns-in_err-found
returns-in_err-found g c =
    stopped_early g.F.Printer.takes c.args.name.now (g.J.Judge.judges c.args.judge.now c.args.font.now c.args.waivers.now)
    (checked c.args.font.now c.args.sidebearings.now.edition) c.args.waivers.now _ _ c.in_err-found.field-0.0 c.in_err-found.ensures _
    (lost_same {T = Unit {0}} c.from_residual.result c.in_err-found.field-0.0 c.from_residual.ensures.1)

pub returns : goal.returns
returns g c =
    all_handed g.F.Printer.takes c.args.name.now (g.J.Judge.judges c.args.judge.now c.args.font.now c.args.waivers.now)
    (checked c.args.font.now c.args.sidebearings.now.edition) c.args.waivers.now _ _ _ c.in_ok-found.found _ c.in_ok-found.ensures c.done.ensures
