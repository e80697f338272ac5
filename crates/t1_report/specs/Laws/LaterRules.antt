-- What the rules after number 70, and those after number 93, change of a report.
use Rattle.std.specs.Prelude.{◌≡◌, ◌↔◌, ℕ, ◌≤◌, nat_le, Bool, false, Some, List, slice_get}
use Rattle.std.specs.List.{All}
use Rattle.t1_char.specs.declared.edition.Edition.{Edition}
use Rattle.t1_char.specs.declared.edition.Edition.TheVariants.{Four, Three, Two}
use Rattle.t1_char.specs.Editions.{has_later_rules, has_latest_rules}
use Rattle.t1_font.specs.Fonts.{FontValue}
use Rattle.t1_font.specs.Laws.Notes.{unnoted}
use Rattle.t1_rules.specs.Book.{last_number_before, last_number_of_third, number_of}
use Rattle.t1_report.specs.Checked.{CheckedFont, checked}
use Rattle.t1_report.specs.Faults.{FaultValue}
use Rattle.t1_report.specs.Laws.WaivedFaults.{faults_at}
use Rattle.t1_report.specs.Reports.{IsReport, Place}
use Rattle.t1_report.specs.Waivers.{Waiver}

-- An edition that hasn't these rules reports none of them, whatever is waived.
abbrev pub EarlierReportsHaveNoLaterRule : Type 0
EarlierReportsHaveNoLaterRule =
    (font : CheckedFont) (waivers : List Waiver) (faults : List FaultValue) → has_later_rules font.edition ≡ false →
    IsReport font waivers faults → All (λ fault. number_of fault.rule ≤ last_number_before) faults

-- And it reports of a font just what it reports of the font without its noted keys.
abbrev pub EarlierReportsKnowNoNotes : Type 0
EarlierReportsKnowNoNotes =
    (font : CheckedFont) (waivers : List Waiver) (faults : List FaultValue) → has_later_rules font.edition ≡ false →
    IsReport font waivers faults ↔ IsReport (checked (unnoted font.value) font.edition) waivers faults

-- An edition that hasn't the rules after number 93 reports none of them.
abbrev pub FirstThreeReportNoLatestRule : Type 0
FirstThreeReportNoLatestRule =
    (font : CheckedFont) (waivers : List Waiver) (faults : List FaultValue) → has_latest_rules font.edition ≡ false →
    IsReport font waivers faults → All (λ fault. number_of fault.rule ≤ last_number_of_third) faults

-- Each waiver is of a rule up to this number.
abbrev pub AreUpTo : ℕ → List Waiver → Type 0
AreUpTo most waivers = (i : ℕ) (w : Waiver) → slice_get waivers i ≡ Some w → number_of w.1 ≤ most

abbrev pub is_up_to : ℕ → Place → Bool
is_up_to most p = nat_le (number_of p.rule) most

-- With such waivers two editions report the same faults of these rules, in order.
abbrev pub ReportTheSame : ℕ → Edition → Edition → Type 0
ReportTheSame most older newer =
    (font : FontValue) (waivers : List Waiver) (before after : List FaultValue) → AreUpTo most waivers →
    IsReport (checked font older) waivers before → IsReport (checked font newer) waivers after →
    faults_at (is_up_to most) before ≡ faults_at (is_up_to most) after

abbrev pub ThirdReportsAsTheSecond : Type 0
ThirdReportsAsTheSecond = ReportTheSame last_number_before Two Three

abbrev pub FourthReportsAsTheThird : Type 0
FourthReportsAsTheThird = ReportTheSame last_number_of_third Three Four
