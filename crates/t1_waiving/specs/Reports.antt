-- The waivers that are written of a font's report.
use Rattle.std.specs.Prelude.{◌≡◌, ℕ, List, map}
use Rattle.t1_font.specs.Fonts.{FontValue}
use Rattle.t1_lines.specs.Lines.{line_in}
use Rattle.t1_many.specs.Verdicts.{told_faults}
use Rattle.t1_many.specs.WrittenWaivers.{waivers_of_lines, waivers_text}
use Rattle.t1_report.specs.Checked.{CheckedFont}
use Rattle.t1_report.specs.Faults.{FaultValue}
use Rattle.t1_report.specs.Reports.{IsReport}
use Rattle.t1_report.specs.Waivers.{Waiver}
use Rattle.t1_rules.specs.declared.mask.Mask.{Mask}

-- Those of the lines of glyphs whose rules are reported.
abbrev pub report_waivers : Mask → FontValue → List Waiver → List FaultValue → List Waiver
report_waivers rules font waivers faults = waivers_of_lines (map (line_in font waivers) (told_faults rules faults))

abbrev pub report_text : Mask → FontValue → List Waiver → List FaultValue → List ℕ
report_text rules font waivers faults = waivers_text (report_waivers rules font waivers faults)

-- The text is that of the waivers of a font's report, which was made with these waivers.
abbrev pub WaivesReport : Mask → CheckedFont → List Waiver → List ℕ → Type 0
WaivesReport rules font waivers text =
    (faults : List FaultValue) × IsReport font waivers faults × (text ≡ report_text rules font.value waivers faults)
