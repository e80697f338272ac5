use Rattle.std.proofs.Common.{refl}
use Rattle.t1_many.proofs.KnownReports.{report_anew}
use Rattle.t1_many.proofs.readings.UpdateBaselinePolicy.report.Goals as goal
use Rattle.t1_many.specs.Counts.{kind_counts}
use Rattle.t1_report.specs.Checked.{checked}

pub returns : goal.returns
returns g c =
    let taken = report_anew g.F.Printer.takes c.args.self.now.rules c.args.name.now c.a_font_has_one_report.ensures
    (checked c.args.font.now c.args.sidebearings.now.edition) c.args.waivers.now (kind_counts c.in_ok-found.found.entries) c.in_ok-found.ensures
    c.in_ok-reading.reading c.in_ok-reading.ensures _ _ _ c.hand_report-taken.ensures _ _ _ c.keep.ensures in
    (taken.0, taken.1, (refl, taken.2))
