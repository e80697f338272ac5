-- How what is handed on of one font ends.
use Rattle.std.specs.Prelude.{◌≡◌, ℕ, List, Option, Result, IfOk}
use Rattle.t1_many.specs.Handing.{Handed, HandsOn, found_by, lines_by, lost_of}
use Rattle.t1_many.specs.Recipients.{Recipient}
use Rattle.t1_summary.specs.declared.found.FontClass.{FontClass}
use Rattle.t1_many.specs.declared.policy.Lost.{Lost}
use Rattle.t1_many.specs.declared.verdict.Verdict.{Verdict}
use Rattle.t1_report.specs.Checked.{CheckedFont}
use Rattle.t1_report.specs.Faults.{FaultValue}
use Rattle.t1_report.specs.Reports.{IsReport}
use Rattle.t1_report.specs.Waivers.{Waiver}

-- The lines of a report that aren't omitted.
abbrev pub HandsLines : Recipient Handed (Option Lost) → (FaultValue → Verdict) → List ℕ → CheckedFont → List Waiver → Result FontClass Lost
    → Type 0
HandsLines printer judges name font waivers taken =
    (faults : List FaultValue) × IsReport font waivers faults
    × HandsOn printer.takes printer.old printer.new (lines_by judges name font waivers faults) (lost_of taken)
    × IfOk taken (λ found. found ≡ found_by judges faults)
