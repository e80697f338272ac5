-- The statements of laws.
use Rattle.std.specs.Prelude.{◌≡◌, ◌⊎◌, ◌<◌, ℕ, List, [], length, map, Option, None, Some, Result, Ok, Err}
use Rattle.std.specs.List.{AllByRecursion, IsDistinct, list_any}
use Rattle.std.specs.Str.{bytes_eq}
use Rattle.t1_answer_all.specs.Endings.{has_failing, mismatches_text}
use Rattle.t1_answer_all.specs.Modes.{anew, beyond, judges_of, readings_of}
use Rattle.t1_char.specs.declared.edition.Edition.{Edition}
use Rattle.t1_io.specs.Devices.{SourceState}
use Rattle.t1_known.specs.Readings.{IsReadable}
use Rattle.t1_known.specs.Reads.{IsReadAs}
use Rattle.t1_many.specs.Choice.{Choice, is_told}
use Rattle.t1_many.specs.Counting.{all_lines}
use Rattle.t1_many.specs.Calls.{Calls}
use Rattle.t1_many.specs.Ends.{AreChecked}
use Rattle.t1_many.specs.Files.{files_by}
use Rattle.t1_many.specs.Handing.{found_of}
use Rattle.t1_many.specs.KnownFaults.{RowValue, file_text, updated}
use Rattle.t1_many.specs.Outcomes.{Entry, Outcome, failed, found_of_error, reported}
use Rattle.t1_many.specs.Told.{all_handed}
use Rattle.t1_many.specs.declared.font_files.WaiverFiles.{WaiverFiles}
use Rattle.t1_names.specs.Once.{each_once}
use Rattle.t1_rules.specs.Book.{code_of, number_of}
use Rattle.t1_rules.specs.Mask.{has}
use Rattle.t1_rules.specs.declared.mask.Mask.{Mask}
use Rattle.t1_rules.specs.declared.rule.Rule.{Rule}
use Rattle.t1_many.specs.declared.font_error.FontError.TheVariants.{Refused, Unchecked}
use Rattle.t1_many.specs.declared.font_error.Obstacle.TheVariants.{LineEnd, Memory, Unread, WaiversUnread}
use Rattle.t1_names.specs.declared.causes.Cause.{Cause}
use Rattle.t1_summary.specs.Tallies.{tally_of}
use Rattle.t1_summary.specs.declared.found.FontClass.{FontClass}
use Rattle.t1_summary.specs.declared.found.FontClass.TheVariants.{Clean, Known}

-- The rules are those that the codes choose.
abbrev pub AreChosenBy : Choice → Mask → Type 0
AreChosenBy choice rules = (rule : Rule) → has rules (number_of rule) ≡ is_told choice (code_of rule)

-- Each font was checked once, and what was found in it can be read of rows.
pub record CanBeKnown (rules : Mask) (entries : List Entry) : Type 0 where
  pub once : IsDistinct bytes_eq (map (λ entry. entry.name) entries)
  pub readable : AllByRecursion IsReadable (readings_of (anew []) rules entries)

-- A font is clean or has known faults alone; of one without a report it is said why there is none.
abbrev pub IsQuietFont : Outcome → FontClass → Type 0
IsQuietFont (reported report) found = (found ≡ Clean) ⊎ (found ≡ Known)
IsQuietFont (failed reason) found = found ≡ found_of_error reason

-- No line of a report is handed on, no row is reported as another number, and no font is reported as one with faults.
pub record IsQuiet (choice : Choice) (rules : Mask) (known : List RowValue) (entries : List Entry) : Type 0 where
  pub lines : all_lines (all_handed (judges_of (beyond known) rules) entries) ≡ []
  pub rows : mismatches_text (beyond known) choice (readings_of (beyond known) rules entries) ≡ []
  pub founds :
      AllByRecursion (λ entry. IsQuietFont entry.outcome (found_of (judges_of (beyond known) rules entry.name) entry.outcome)) entries

-- Where known faults were made anew of fonts, and the file is read, the same fonts are quiet: it had these rows before, and has what was found.
abbrev pub AnUpdateIsQuietNextTime : Type 0
AnUpdateIsQuietNextTime =
    (choice : Choice) (rules : Mask) (entries : List Entry) (text : List ℕ) (rows known : List RowValue)
    → AreChosenBy choice rules → CanBeKnown rules entries → IsReadAs text (Ok rows)
    → IsReadAs (file_text (updated choice (readings_of (anew rows) rules entries) rows)) (Ok known) → IsQuiet choice rules known entries

-- ---- over files

-- The file of a font of this name holds these bytes, if it can be opened. No file has the empty name.
abbrev pub HoldsFont : List ℕ → List ℕ → Result SourceState Cause → Type 0
HoldsFont bytes name (Err cause) = Unit {0}
HoldsFont bytes name (Ok source) = (0 < length name) × (source.left ≡ Some bytes)

-- A font has this text of waivers, or none.
abbrev pub HoldsWaivers : Option (List ℕ) → Option (Result SourceState Cause) → Type 0
HoldsWaivers held None = held ≡ None
HoldsWaivers held (Some (Err cause)) = Unit {0}
HoldsWaivers held (Some (Ok waivers)) = (text : List ℕ) × (held ≡ Some text) × (waivers.left ≡ Some text)

-- Files that hold these bytes by their names, and some of whose fonts have these texts of waivers. No call changes them.
abbrev pub holding : (List ℕ → List ℕ) → (List ℕ → Option (List ℕ)) → Calls (Unit {0})
holding bytes_of text_of = record {
  Opens = λ old new name opened. HoldsFont (bytes_of name) name opened;
  OpensWaivers = λ old new name opened. HoldsWaivers (text_of name) opened;
  Leaves = λ old new name source. Unit {0};
  LeavesWaivers = λ old new name waivers. Unit {0};
}

-- A font was read or refused, or its name has a line end. Else a read or an allocation failed, which another check may not meet.
abbrev pub IsChecked : Outcome → Type 0
IsChecked (reported report) = Unit {0}
IsChecked (failed (Refused code)) = Unit {0}
IsChecked (failed (Unchecked LineEnd)) = Unit {0}
IsChecked (failed (Unchecked (Unread cause))) = ⊥
IsChecked (failed (Unchecked (WaiversUnread cause))) = ⊥
IsChecked (failed (Unchecked Memory)) = ⊥

-- The fonts of a list were checked in such files.
pub record AreCheckedIn (bytes_of : List ℕ → List ℕ) (text_of : List ℕ → Option (List ℕ)) (beside : WaiverFiles) (edition : Edition)
    (listed : List (List ℕ)) (entries : List Entry) : Type 0 where
  pub named : map (λ entry. entry.name) entries ≡ each_once listed
  pub found : AreChecked (files_by (holding bytes_of text_of) beside tt tt) edition entries
  pub checked : AllByRecursion (λ entry. IsChecked entry.outcome) entries

-- Where known faults were made anew of fonts, and the file is read, another check of the same files is quiet.
abbrev pub AnUpdateOfFilesIsQuietNextTime : Type 0
AnUpdateOfFilesIsQuietNextTime =
    (bytes_of : List ℕ → List ℕ) (text_of : List ℕ → Option (List ℕ)) (beside : WaiverFiles) (edition : Edition) (listed : List (List ℕ))
    (entries again : List Entry) (choice : Choice) (rules : Mask) (text : List ℕ) (rows known : List RowValue)
    → AreCheckedIn bytes_of text_of beside edition listed entries → AreCheckedIn bytes_of text_of beside edition listed again
    → AreChosenBy choice rules → IsReadAs text (Ok rows)
    → IsReadAs (file_text (updated choice (readings_of (anew rows) rules entries) rows)) (Ok known) → IsQuiet choice rules known again

-- ---- statuses

-- A tally has a line of one of these rules exactly where such a line was counted.
abbrev pub StatusesAreByLines : Type 0
StatusesAreByLines =
    (failing : Mask) (founds : List FontClass) (lines : List Rule)
    → has_failing failing (tally_of founds lines) ≡ list_any (λ line. has failing (number_of line)) lines
