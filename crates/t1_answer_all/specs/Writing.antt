-- What is written of fonts, by the layout.
use Rattle.std.specs.Prelude.{◌≡◌, ℕ, Bool, List, Option, None, Some, Result, Ok, Err, IfOk}
use Rattle.t1_answer_all.specs.Checks.{ChecksFonts}
use Rattle.t1_answer_all.specs.Unlisted.{GivesEach}
use Rattle.t1_answer_all.specs.declared.findings.Findings.{Findings}
use Rattle.t1_answer_all.specs.Plans.{Run}
use Rattle.t1_answer_all.specs.Layouts.{LayoutValue, cases, commands, groups, json_lines, lines, sarif}
use Rattle.t1_forms.specs.JUnit.{begun as no_case, junit_state, opening as suite_opening}
use Rattle.t1_forms.specs.Sarif.{begun as no_line_of, opening, sarif_state}
use Rattle.t1_forms.specs.declared.error.FormatError.{FormatError}
use Rattle.t1_forms.specs.declared.error.FormatError.TheVariants as errors
use Rattle.t1_printers.specs.Cases.{case_telling_written, case_written, cases_ended}
use Rattle.t1_printers.specs.Commands.{command_writing, command_written}
use Rattle.t1_printers.specs.GroupLines.{Writing}
use Rattle.t1_printers.specs.Grouping.{GroupedTakes}
use Rattle.t1_printers.specs.Groups.{GroupValue}
use Rattle.t1_printers.specs.RuleGroups.{no_groups}
use Rattle.t1_printers.specs.Terminals.{terminal_writing}
use Rattle.t1_io.specs.Devices.{SinkState, Wrote}
use Rattle.t1_many.specs.Files.{AreUntouched}
use Rattle.t1_many.specs.Handing.{lost_of}
use Rattle.t1_many.specs.Plain.{IsFlushed, IsLinePut, PlainTakes}
use Rattle.t1_many.specs.declared.policy.Lost.{Lost}
use Rattle.t1_many.specs.declared.policy.Lost.TheVariants.{Device, Memory}
use Rattle.t1_printers.specs.Documents.{end_written, telling_written}
use Rattle.t1_printers.specs.Formatting.{Form, FormattedTakes, Formatting, Output, nothing_ends, output_of}
use Rattle.t1_printers.specs.JsonLines.{clean_written, object_written}
use Rattle.t1_printers.specs.declared.github.GitHubCommands.{GitHubCommands as Commands}
use Rattle.t1_run.specs.Opening.{Sinks}

-- What comes after all else was written, and all was flushed; or that failed.
pub data FinishesForm (Finishes : SinkState → SinkState → Option Lost → Type 0) (old new : SinkState) (lost : Option Lost) : Type 0 where
  flushed : (behind : SinkState) → Finishes old behind None → IsFlushed behind new lost → FinishesForm Finishes old new lost
  unfinished : (reason : Lost) → Finishes old new (Some reason) → lost ≡ Some reason → FinishesForm Finishes old new lost

-- A form was finished, unless the check of its fonts stopped.
abbrev pub FinishesChecked : (SinkState → SinkState → Option Lost → Type 0) → SinkState → SinkState → Result Findings Lost → Result Findings Lost → Type 0
FinishesChecked Finishes old new (Ok found) result = FinishesForm Finishes old new (lost_of result) × IfOk result (λ f. f ≡ found)
FinishesChecked Finishes old new (Err lost) result = (new ≡ old) × (result ≡ Err lost)

-- A formatter was given what couldn't be listed, then what is chosen of the fonts, and then it finished, unless it stopped at one of these.
pub data WritesFormatted {T : Type 0} (form : Form T) (Finishes : T → SinkState → SinkState → Option Lost → Type 0) (run : Run) (old : Formatting T)
    (new : Sinks) (result : Result Findings Lost) : Type 0 where
  written :
      (begun ended : Formatting T) → GivesEach form.writes (output_of old) (output_of begun) run.plan.unlisted None
      → begun.sinks.errors ≡ old.sinks.errors → (found : Result Findings Lost) → ChecksFonts (FormattedTakes form) run begun ended found
      → FinishesChecked (Finishes ended.formatter) ended.sinks.out new.out found result → new.errors ≡ ended.sinks.errors
      → WritesFormatted form Finishes run old new result
  unlistable :
      (left : T) → (lost : Lost) → GivesEach form.writes (output_of old) (record { formatter = left; out = new.out }) run.plan.unlisted (Some lost)
      → new.errors ≡ old.sinks.errors → AreUntouched run.files → result ≡ Err lost → WritesFormatted form Finishes run old new result

-- Nothing comes after all else.
abbrev pub NoEnd : {T : Type 0} → T → SinkState → SinkState → Option Lost → Type 0
NoEnd formatter old new lost = (new ≡ old) × (lost ≡ None)

-- Why a run stops where a document can't be begun.
abbrev pub lost_by : FormatError → Lost
lost_by errors.Memory = Memory
lost_by errors.Broken = Device

-- A document was begun by an opening, and then written; or it couldn't be begun.
pub data WritesDocument {T : Type 0} (opening : List ℕ) (Begins : T → Type 0) (form : Form T) (Finishes : T → SinkState → SinkState → Option Lost → Type 0)
    (run : Run) (old new : Sinks) (result : Result Findings Lost) : Type 0 where
  begun :
      (document : T) → (behind : SinkState) → Wrote old.out behind opening → Begins document
      → WritesFormatted form Finishes run (record { formatter = document; sinks = record { out = behind; errors = old.errors } }) new result
      → WritesDocument opening Begins form Finishes run old new result
  not_begun :
      (lost : Lost) → IsLinePut old.out new.out opening (Some lost) → new.errors ≡ old.errors → AreUntouched run.files
      → result ≡ Err lost → WritesDocument opening Begins form Finishes run old new result

-- What is chosen of the fonts was handed on to a form of groups, which had none at first.
abbrev pub WritesGroups : Writing → Run → Sinks → Sinks → Result Findings Lost → Type 0
WritesGroups writing run old new result =
    (left : List GroupValue)
    × ChecksFonts (GroupedTakes writing) run (record { sinks = old; groups = no_groups writing.room }) (record { sinks = new; groups = left }) result

-- Commands were written of what couldn't be listed, and flushed; then groups of the fonts; or it stopped at one of these.
pub data WritesCommands (reasons : Bool) (run : Run) (old new : Sinks) (result : Result Findings Lost) : Type 0 where
  written :
      (formatter : Commands) → (begun : Output Commands)
      → GivesEach command_written (record { formatter = formatter; out = old.out }) begun run.plan.unlisted None
      → (flushed : SinkState) → IsFlushed begun.out flushed None
      → WritesGroups (command_writing reasons) run (record { out = flushed; errors = old.errors }) new result
      → WritesCommands reasons run old new result
  unflushed :
      (formatter : Commands) → (begun : Output Commands)
      → GivesEach command_written (record { formatter = formatter; out = old.out }) begun run.plan.unlisted None
      → (lost : Lost) → IsFlushed begun.out new.out (Some lost) → new.errors ≡ old.errors → AreUntouched run.files → result ≡ Err lost
      → WritesCommands reasons run old new result
  unlistable :
      (formatter left : Commands) → (lost : Lost)
      → GivesEach command_written (record { formatter = formatter; out = old.out }) (record { formatter = left; out = new.out }) run.plan.unlisted (Some lost)
      → new.errors ≡ old.errors → AreUntouched run.files → result ≡ Err lost → WritesCommands reasons run old new result

-- What is written in this layout.
abbrev pub WritesBy : LayoutValue → Run → Sinks → Sinks → Result Findings Lost → Type 0
WritesBy (lines reasons) run old new result = ChecksFonts (PlainTakes reasons) run old new result
WritesBy (groups terminal) run old new result =
    WritesGroups (terminal_writing terminal.width terminal.has_colours terminal.reasons) run old new result
WritesBy (json_lines clean reasons) run old new result =
    WritesFormatted (record { reasons = reasons; writes = object_written; ends = clean_written }) NoEnd run
    (record { formatter = record { clean = clean }; sinks = old }) new result
WritesBy (sarif pages reasons) run old new result =
    WritesDocument (opening pages) (λ document. sarif_state document ≡ no_line_of pages)
    (record { reasons = reasons; writes = telling_written; ends = nothing_ends }) end_written run old new result
WritesBy (commands reasons) run old new result = WritesCommands reasons run old new result
WritesBy (cases failing reasons) run old new result =
    WritesDocument suite_opening (λ document. junit_state document ≡ no_case failing)
    (record { reasons = reasons; writes = case_telling_written; ends = case_written }) cases_ended run old new result

abbrev pub WritesIn : Run → Sinks → Sinks → Result Findings Lost → Type 0
WritesIn run = WritesBy run.plan.layout run
