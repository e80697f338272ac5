-- What is handed on of many fonts, and in which order.
use Rattle.std.specs.Prelude.{◌≡◌, ◌⊎◌, ℕ, List, [], ◌∷◌, ◌++◌, filter, map, Bool, true, false, Option, None, Some, Result, Ok, Err}
use Rattle.t1_many.specs.Outcomes.{Entry, Outcome, Report, failed, found_of_error, reported}
use Rattle.t1_many.specs.Recipients.{Recipient}
use Rattle.t1_summary.specs.declared.found.FontClass.{FontClass}
use Rattle.t1_summary.specs.declared.found.FontClass.TheVariants.{Clean, Faulty, Known, Refused, Unchecked}
use Rattle.t1_many.specs.declared.font_error.FontError.{FontError}
use Rattle.t1_many.specs.declared.policy.Lost.{Lost}
use Rattle.t1_many.specs.declared.verdict.Verdict.{Verdict}
use Rattle.t1_many.specs.declared.verdict.Verdict.TheVariants as verdicts
use Rattle.t1_report.specs.Checked.{CheckedFont, checked}
use Rattle.t1_report.specs.Faults.{FaultValue}
use Rattle.t1_report.specs.Reports.{IsReport}
use Rattle.t1_report.specs.Waivers.{Waiver}

-- One thing that is handed on of a font: a line of its report, or why there is none; and, after all else of it, how it
-- was found.
pub data Handed : Type 0 where
  line : (name : List ℕ) → CheckedFont → List Waiver → FaultValue → Handed
  failure : (name : List ℕ) → FontError → Handed
  done : (name : List ℕ) → FontClass → Handed

-- Why it stopped, if it did.
abbrev pub lost_of : {T : Type 0} → Result T Lost → Option Lost
lost_of (Ok value) = None
lost_of (Err lost) = Some lost

-- These were handed on one after another; or it stopped at one of them, and no later one was.
abbrev pub HandsOn : {F : Type 0} → (F → F → Handed → Option Lost → Type 0) → F → F → List Handed → Option Lost → Type 0
HandsOn takes old new [] lost = (new ≡ old) × (lost ≡ None)
HandsOn {F} takes old new (handed ∷ more) lost =
    ((next : F) × takes old next handed None × HandsOn takes next new more lost)
    ⊎ ((reason : Lost) × takes old new handed (Some reason) × (lost ≡ Some reason))

-- ---- one font

-- The line of a fault is handed on.
abbrev pub is_told : Verdict → Bool
is_told verdicts.Reported = true
is_told verdicts.Known = false
is_told verdicts.Skipped = false

-- How a font is found that has one fault more.
abbrev pub found_with : Verdict → FontClass → FontClass
found_with verdicts.Reported found = Faulty
found_with verdicts.Known Clean = Known
found_with verdicts.Known Known = Known
found_with verdicts.Known Faulty = Faulty
found_with verdicts.Known Refused = Refused
found_with verdicts.Known Unchecked = Unchecked
found_with verdicts.Skipped found = found

-- How a font with these faults is found: faulty where a line is handed on, else known where there is a known fault.
abbrev pub found_by : (FaultValue → Verdict) → List FaultValue → FontClass
found_by judges [] = Clean
found_by judges (fault ∷ faults) = found_with (judges fault) (found_by judges faults)

-- The lines of a font that are handed on.
abbrev pub lines_by : (FaultValue → Verdict) → List ℕ → CheckedFont → List Waiver → List FaultValue → List Handed
lines_by judges name font waivers faults = map (line name font waivers) (filter (λ fault. is_told (judges fault)) faults)

-- All that is handed on of a font, by how its faults are judged.
abbrev pub handed_of : (Report → FaultValue → Verdict) → List ℕ → Outcome → List Handed
handed_of judges name (reported report) =
    lines_by (judges report) name (checked report.font report.edition) report.waivers report.faults ++ done name (found_by (judges report) report.faults) ∷ []
handed_of judges name (failed reason) = failure name reason ∷ done name (found_of_error reason) ∷ []

abbrev pub found_of : (Report → FaultValue → Verdict) → Outcome → FontClass
found_of judges (reported report) = found_by (judges report) report.faults
found_of judges (failed reason) = found_of_error reason

-- All of a font was handed on, or it stopped there.
abbrev pub HandsFont : Recipient Handed (Option Lost) → (Report → FaultValue → Verdict) → Entry → Option Lost → Type 0
HandsFont printer judges entry lost = HandsOn printer.takes printer.old printer.new (handed_of judges entry.name entry.outcome) lost

-- The lines of a report that aren't omitted were handed on, and then how the font was found; or it stopped there.
abbrev pub HandsReport : Recipient Handed (Option Lost) → (FaultValue → Verdict) → List ℕ → CheckedFont → List Waiver → Option Lost → Type 0
HandsReport printer judges name font waivers lost =
    (faults : List FaultValue) × IsReport font waivers faults
    × HandsOn printer.takes printer.old printer.new (lines_by judges name font waivers faults ++ done name (found_by judges faults) ∷ []) lost

-- Why there is no report was handed on, and then how the font was found; or it stopped there.
abbrev pub HandsFailure : Recipient Handed (Option Lost) → List ℕ → FontError → Option Lost → Type 0
HandsFailure printer name reason lost =
    HandsOn printer.takes printer.old printer.new (failure name reason ∷ done name (found_of_error reason) ∷ []) lost

-- ---- fonts of which something is kept

-- A printer, to which what is reported of fonts is handed on; and what is kept of them, before and after.
pub record Keeping (Kept : Type 0) : Type 1 where
  pub printer : Recipient Handed (Option Lost)
  pub old : List Kept
  pub new : List Kept
