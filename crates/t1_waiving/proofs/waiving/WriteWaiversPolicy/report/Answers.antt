use Rattle.std.proofs.Common.{◌≡◌, ◌++◌, ◌∙◌, List, ap, refl, sym}
use Rattle.t1_report.specs.Checked.{checked}
use Rattle.t1_report.specs.Faults.{FaultValue}
use Rattle.t1_waiving.proofs.WaivedReports.{font_waived, input_told}
use Rattle.t1_waiving.proofs.waiving.WriteWaiversPolicy.report.Goals as goal
use Rattle.t1_waiving.specs.FontTexts.{texts_of}
use Rattle.t1_waiving.specs.Reports.{report_text}

pub returns-then-is_input : goal.returns-then-is_input
returns-then-is_input g c =
    let handed = c.hand_report.ensures in (
      handed.0,
      handed.1,
      (
        refl,
        input_told g.F.Printer.takes c.args.self.now.rules _ _ _ _ c.args.name.now _ _ (sym c.is_input.ensures ∙ c.if-is_input.true) handed.2 refl,
      ),
    )

pub returns : goal.returns
returns g c =
    let font = checked c.args.font.now c.args.sidebearings.now.edition in
    let handed = c.hand_report-2.ensures in
    let written = c.in_ok-text.ensures in
    let same : written.0 ≡ handed.0 = c.a_font_has_one_report.ensures font c.args.waivers.now written.0 handed.0 written.1 handed.1 in (
      handed.0,
      handed.1,
      (
        refl,
        font_waived g.F.Printer.takes c.args.self.now.rules _ _ _ _ c.args.name.now _ _
            (sym c.is_input.ensures ∙ c.if-is_input.false) handed.2
            (c.in_ok-push.ensures ∙ ap (λ text. c.args.self.now.kept ++ texts_of c.args.name.now text)
            (written.2 ∙ ap (λ (faults : List FaultValue). report_text c.args.self.now.rules c.args.font.now c.args.waivers.now faults) same)),
      ),
    )
