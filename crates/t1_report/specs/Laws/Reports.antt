-- Each font has a report, and no two.
use Rattle.std.specs.Prelude.{◌≡◌, List}
use Rattle.t1_report.specs.Checked.{CheckedFont}
use Rattle.t1_report.specs.Faults.{FaultValue}
use Rattle.t1_report.specs.Reports.{IsReport}
use Rattle.t1_report.specs.Waivers.{Waiver}

abbrev pub HasReport : Type 0
HasReport = (font : CheckedFont) (waivers : List Waiver) → (faults : List FaultValue) × IsReport font waivers faults

abbrev pub HasNoOtherReport : Type 0
HasNoOtherReport =
    (font : CheckedFont) (waivers : List Waiver) (a b : List FaultValue) → IsReport font waivers a → IsReport font waivers b →
    a ≡ b
