use Rattle.std.proofs.Common.{refl}
use Rattle.t1_many.proofs.KnownReports.{report_kept}
use Rattle.t1_many.proofs.readings.ReportNewPolicy.report.Goals as goal
use Rattle.t1_many.specs.Counts.{kind_counts}
use Rattle.t1_report.specs.Checked.{checked}

pub returns : goal.returns
returns g c =
    let taken = report_kept g.F.Printer.takes c.args.self.now.rules c.args.name.now (g.K.Known.counts c.args.self.now.known)
    c.a_font_has_one_report.ensures (checked c.args.font.now c.args.sidebearings.now.edition) c.args.waivers.now c.requires.read
    (kind_counts c.in_ok-found.found.entries) (kind_counts c.in_ok-both.both.known.entries) c.in_ok-found.ensures c.in_ok-both.ensures.known
    c.in_ok-both.both.reading c.in_ok-both.ensures.reading _ _ _ c.hand_report-taken.ensures _ _ _ c.keep.ensures in
    (taken.0, taken.1, (refl, refl, taken.2))
