-- Which lines of fonts are chosen, and what is kept of fonts.
use Rattle.std.specs.Prelude.{ℕ, ◌-◌, ◌^◌, min, List, [], ◌∷◌, map}
use Rattle.std.specs.List.{flat_map}
use Rattle.t1_known.specs.Keys.{count_at}
use Rattle.t1_many.specs.Known.{kind_in}
use Rattle.t1_many.specs.KnownFaults.{RowValue, Reading}
use Rattle.t1_many.specs.Outcomes.{Entry, Outcome, Report, failed, reported}
use Rattle.t1_many.specs.Readings.{as_known, by_known}
use Rattle.t1_many.specs.Verdicts.{of_rules, told_faults}
use Rattle.t1_many.specs.declared.verdict.Verdict.{Verdict}
use Rattle.t1_report.specs.Faults.{FaultValue}
use Rattle.t1_rules.specs.declared.mask.Mask.{Mask}
use Rattle.t1_waiving.specs.FontTexts.{FontText, all_texts}
use Rattle.t1_waiving.specs.GlyphLines.{but_waived}
use Rattle.t1_answer_all.specs.declared.mode.Mode.{Mode}
use Rattle.t1_answer_all.specs.declared.mode.Mode.TheVariants as modes

-- All lines are chosen; those beyond these rows of known faults; none, since what is found becomes known in the place of these rows; those
-- outside glyphs, since the others are waived, and all of standard input, beside which there are no waivers.
pub data ModeValue : Type 0 where
  told : ModeValue
  beyond : List RowValue → ModeValue
  anew : List RowValue → ModeValue
  waived : ModeValue

abbrev pub mode_value : Mode → ModeValue
mode_value modes.ReportAll = told
mode_value (modes.ReportNew known) = beyond known.now
mode_value (modes.UpdateBaseline known) = anew known.now
mode_value modes.WriteWaivers = waived

-- How often the rows say a key; a number of 64 bits says no more.
abbrev pub counts_in : List RowValue → List ℕ → ℕ
counts_in rows key = min (count_at rows key) (2 ^ 64 - 1)

-- How the faults of the report of a font of this name are judged.
abbrev pub judges_of : ModeValue → Mask → List ℕ → Report → FaultValue → Verdict
judges_of told rules name = of_rules rules
judges_of (beyond rows) rules name = by_known (counts_in rows) rules name
judges_of (anew rows) rules name = as_known rules
judges_of waived rules name = but_waived rules name

-- What was found in a font whose report was made: the kinds of its lines whose rules are reported.
abbrev pub kinds_of : Mask → Report → List (List ℕ)
kinds_of rules report = map (kind_in report.font report.waivers) (told_faults rules report.faults)

abbrev pub outcome_readings : Mask → List ℕ → Outcome → List Reading
outcome_readings rules name (reported report) = record { font = name; kinds = kinds_of rules report } ∷ []
outcome_readings rules name (failed reason) = []

abbrev pub entry_readings : Mask → Entry → List Reading
entry_readings rules entry = outcome_readings rules entry.name entry.outcome

-- What is kept of fonts for a file of known faults.
abbrev pub readings_of : ModeValue → Mask → List Entry → List Reading
readings_of told rules entries = []
readings_of (beyond rows) rules entries = flat_map (entry_readings rules) entries
readings_of (anew rows) rules entries = flat_map (entry_readings rules) entries
readings_of waived rules entries = []

-- Which waivers are kept of fonts.
abbrev pub waivers_of : ModeValue → Mask → List Entry → List FontText
waivers_of told rules entries = []
waivers_of (beyond rows) rules entries = []
waivers_of (anew rows) rules entries = []
waivers_of waived rules entries = all_texts rules entries
