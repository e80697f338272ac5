-- What is printed once all fonts were checked, and what is left to do.
use Rattle.std.specs.Prelude.{◌≡◌, ◌++◌, ℕ, ◌&&◌, not, nat_lt, Bool, true, false, List, [], codes, length, Option, None, Some, option_map, Result, Ok, Err, if◌then◌else◌}
use Rattle.std.specs.List.{flat_map, list_any}
use Rattle.t1_io.specs.Devices.{PutFailed, SinkState, Wrote}
use Rattle.t1_known.specs.Lines.{row_lines}
use Rattle.t1_known.specs.Readings.{AreReadingsOf}
use Rattle.t1_many.specs.Choice.{Choice}
use Rattle.t1_many.specs.KnownFaults.{Reading, file_text, mismatch, updated}
use Rattle.t1_many.specs.declared.readings.Reading.{Reading as Kept}
use Rattle.t1_many.specs.declared.policy.Lost.{Lost}
use Rattle.t1_many.specs.declared.policy.Lost.TheVariants.{Device, Memory}
use Rattle.t1_rules.specs.Book.{number_of, rules}
use Rattle.t1_rules.specs.Mask.{has}
use Rattle.t1_rules.specs.declared.mask.Mask.{Mask}
use Rattle.t1_rules.specs.declared.rule.Rule.{Rule}
use Rattle.t1_run.specs.declared.status.Status.{Status}
use Rattle.t1_run.specs.declared.status.Status.TheVariants.{Clean, Failed, Faults, Refused}
use Rattle.t1_summary.specs.Summaries.{summary_text as text_of_summary}
use Rattle.t1_summary.specs.Tallies.{fonts_in, lines_in}
use Rattle.t1_summary.specs.declared.found.FontClass.TheVariants as founds
use Rattle.t1_summary.specs.declared.tally.Tally.{Tally}
use Rattle.t1_waiving.specs.FontTexts.{FontText}
use Rattle.t1_waiving.specs.TooMany.{has_too_many, too_many_line}
use Rattle.t1_answer_all.specs.Modes.{ModeValue, anew, beyond, told, waived}
use Rattle.t1_answer_all.specs.Plans.{PlanValue}
use Rattle.t1_answer_all.specs.Unlisted.{is_whole}
use Rattle.t1_answer_all.specs.declared.ending.Left.{Left}
use Rattle.t1_answer_all.specs.declared.findings.Findings.{Findings}

-- What was found in fonts is kept, where it is compared with known faults or becomes known.
abbrev pub AreFoundBy : ModeValue → List Kept → List Reading → Type 0
AreFoundBy told kept readings = Unit {0}
AreFoundBy (beyond rows) kept readings = AreReadingsOf kept readings
AreFoundBy (anew rows) kept readings = AreReadingsOf kept readings
AreFoundBy waived kept readings = Unit {0}

-- ---- what is printed

-- The rows of known faults from which what was found differs.
abbrev pub mismatches_text : ModeValue → Choice → List Reading → List ℕ
mismatches_text told choice readings = []
mismatches_text (beyond rows) choice readings = flat_map (mismatch choice readings) rows
mismatches_text (anew rows) choice readings = []
mismatches_text waived choice readings = []

abbrev pub has_known : ModeValue → Bool
has_known told = false
has_known (beyond rows) = true
has_known (anew rows) = true
has_known waived = false

-- The text of the file of known faults from now on, where it is made anew, and how many rows it has.
abbrev pub known_faults_in : ModeValue → Choice → List Reading → Option (List ℕ)
known_faults_in told choice readings = None
known_faults_in (beyond rows) choice readings = None
known_faults_in (anew rows) choice readings = Some (file_text (updated choice readings rows))
known_faults_in waived choice readings = None

abbrev pub rows_in : Option (List ℕ) → Option ℕ
rows_in text = option_map (λ text. length (row_lines text)) text

abbrev pub summary_text : PlanValue → Tally → Option ℕ → List ℕ
summary_text plan tally rows = if plan.quiet then [] else text_of_summary tally rows (has_known plan.mode)

-- Where no edition was named on a terminal: by which one fonts were checked, and which one has more rules.
abbrev pub edition_text : PlanValue → List ℕ
edition_text plan =
    if not plan.quiet && plan.tells_edition then codes "by edition 1 of the rules; --edition 4 has more\n" else []

-- Where waivers are to be written, a line that is reported is none of a glyph.
abbrev pub unwaived_text : ModeValue → Tally → List ℕ
unwaived_text told tally = []
unwaived_text (beyond rows) tally = []
unwaived_text (anew rows) tally = []
unwaived_text waived tally =
    if nat_lt 0 (fonts_in tally founds.Faulty) then codes "t1check-all: lines of a font itself can not be waived\n" else []

-- What is printed after these.
abbrev pub rest_text : PlanValue → Findings → Option ℕ → List ℕ
rest_text plan found rows =
    summary_text plan found.tally rows ++ (edition_text plan ++ (unwaived_text plan.mode found.tally ++ flat_map too_many_line found.kept))

abbrev pub ending_text : PlanValue → Findings → List Reading → List ℕ
ending_text plan found readings =
    mismatches_text plan.mode plan.choice readings ++ rest_text plan found (rows_in (known_faults_in plan.mode plan.choice readings))

-- ---- what is left

-- A line was handed on of one of the failing rules among these.
unfoldable pub any_failing : Mask → Tally → List Rule → Bool
any_failing failing tally list = list_any (λ rule. has failing (number_of rule) && nat_lt 0 (lines_in tally rule)) list

-- A line was handed on of a failing rule.
abbrev pub has_failing : Mask → Tally → Bool
has_failing failing tally = any_failing failing tally rules

-- The status of the fonts and lines that a tally has: that of faults where a line of a rule was handed on that makes it so.
abbrev pub status_of : Mask → Tally → Status
status_of failing tally =
    if nat_lt 0 (fonts_in tally founds.Unchecked) then Failed
    else (if nat_lt 0 (fonts_in tally founds.Refused) then Refused
    else (if has_failing failing tally then Faults else Clean))

-- A font with too many waivers is a failure.
abbrev pub status_in : Mask → Findings → Status
status_in failing found = if list_any has_too_many found.kept then Failed else status_of failing found.tally

pub record LeftValue : Type 0 where
  pub status : Status
  pub known_faults : Option (List ℕ)
  pub waivers : Option (List FontText)

abbrev pub left_value : Left → LeftValue
left_value left = record {
  status = left.status;
  known_faults = option_map (λ text. text.items) left.known_faults;
  waivers = left.waivers;
}

abbrev pub nothing_left : Status → LeftValue
nothing_left status = record { status = status; known_faults = None; waivers = None }

-- Where not all could be listed the status is that of a failure.
abbrev pub left_by : PlanValue → Findings → List Reading → LeftValue
left_by plan found readings = record {
  status = if is_whole plan.unlisted then status_in plan.failing found else Failed;
  known_faults = known_faults_in plan.mode plan.choice readings;
  waivers = Some found.kept;
}

-- All was printed; or the device failed after a prefix of it; or memory ran out, and nothing was printed.
abbrev pub Ends : PlanValue → Findings → List Reading → SinkState → SinkState → Result Left Lost → Type 0
Ends plan found readings old new (Ok left) =
    Wrote old new (ending_text plan found readings) × (left_value left ≡ left_by plan found readings)
Ends plan found readings old new (Err Device) = PutFailed old new (ending_text plan found readings)
Ends plan found readings old new (Err Memory) = new ≡ old
