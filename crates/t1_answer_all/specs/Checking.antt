-- How fonts are listed and checked by options.
use Rattle.std.specs.Prelude.{◌≡◌, ℕ, Bool, true, false, not, List, Ok, length}
use Rattle.t1_io.specs.Devices.{SinkState}
use Rattle.t1_known.specs.Reads.{IsReadAs}
use Rattle.t1_many.specs.Calls.{Calls}
use Rattle.t1_many.specs.Files.{files_by}
use Rattle.t1_many.specs.KnownFaults.{RowValue}
use Rattle.t1_run.specs.Opening.{Sinks}
use Rattle.t1_run.specs.Telling.{Explains}
use Rattle.t1_run.specs.declared.status.Status.{Status}
use Rattle.t1_run.specs.declared.usage.UsageError.{UsageError}
use Rattle.t1_answer_all.specs.Known.{IsKnownText, IsNotKnownText, IsWrong, file_of}
use Rattle.t1_answer_all.specs.Listing.{AreFonts, FontsValue, HasNoFonts}
use Rattle.t1_options.specs.Settings.Finding.{IsUnasked, System, since, until}
use Rattle.t1_answer_all.specs.Plans.{AskedValue, Run, beside_of, is_quiet, plan_by}
use Rattle.t1_answer_all.specs.Endings.{LeftValue, nothing_left}
use Rattle.t1_answer_all.specs.Runs.{Runs, program}
use Rattle.t1_answer_all.specs.Stores.{Change, Fonts}
use Rattle.t1_answer_all.specs.Telling.{IsTold, unlisted_text}
use Rattle.t1_answer_all.specs.Usage.{IsToldSo}

-- Nothing was checked: this is printed, and nothing is left to do.
pub record Stops (error : UsageError) (old new : Sinks) (left : LeftValue) : Type 0 where
  pub status : Status
  pub explains : Explains program error old new status
  pub left_is : left ≡ nothing_left status

-- The files know how many fonts are checked from now on, if they are to.
abbrev pub ExpectsIf : {F : Type 0} → (F → F → ℕ → Type 0) → Bool → ℕ → F → F → Type 0
ExpectsIf Expects true count old new = Expects old new count
ExpectsIf Expects false count old new = new ≡ old

-- The fonts of a check that were listed, what is requested of them, and the rows of the file of known faults.
pub record Listed : Type 0 where
  pub asked : AskedValue
  pub rows : List RowValue
  pub fonts : FontsValue

-- The run of these, over files that are changed so.
abbrev pub run_by : {F : Type 0} → Listed → Calls F → F → F → Run
run_by listed calls old new = record {
  plan = plan_by listed.asked listed.rows listed.fonts;
  files = files_by calls (beside_of listed.asked.options.waivers) old new;
}

-- What couldn't be listed is printed first. Then the files are told, unless it is a quiet run, how many fonts there are.
abbrev pub TellsAndChecks : {F : Type 0} → Fonts F → Listed → Change F → LeftValue → Type 0
TellsAndChecks {F} store listed c left =
    (behind : SinkState) × IsTold (unlisted_text listed.fonts.undecoded listed.fonts.unsearched) c.old.errors behind
    × (begun : F) × ExpectsIf store.Expects (not (is_quiet listed.asked.options listed.fonts)) (length listed.fonts.names) c.files begun
    × Runs (run_by listed store.calls begun c.files') (record { out = c.old.out; errors = behind }) c.new left

-- Given the text of the file of known faults: its rows are read, and fonts are listed and checked; or one of these can't be done, and no file is
-- opened.
pub data ChecksKnown {F : Type 0} (system : System) (store : Fonts F) (asked : AskedValue) (text : List ℕ) (c : Change F) (left : LeftValue)
    : Type 0 where
  checked :
      (rows : List RowValue) → IsReadAs text (Ok rows) → (fonts : FontsValue) → AreFonts system asked.options fonts
      → TellsAndChecks store (record { asked = asked; rows = rows; fonts = fonts }) c left → ChecksKnown system store asked text c left
  no_rows :
      (error : UsageError) → IsToldSo (IsWrong (file_of asked.options.known_faults) text) error → Stops error c.old c.new left → c.files' ≡ c.files
      → IsUnasked system → ChecksKnown system store asked text c left
  no_fonts :
      (rows : List RowValue) → IsReadAs text (Ok rows) → (error : UsageError) → IsToldSo (HasNoFonts system asked.options) error
      → Stops error c.old c.new left → c.files' ≡ c.files → ChecksKnown system store asked text c left

-- The file of known faults is read first.
pub data ChecksBy {F : Type 0} (system : System) (store : Fonts F) (asked : AskedValue) (c : Change F) (left : LeftValue) : Type 0 where
  checked :
      (text : List ℕ) → (read : system.State) → IsKnownText (until system read) asked.options.known_faults text
      → ChecksKnown (since system read) store asked text c left → ChecksBy system store asked c left
  no_text :
      (error : UsageError) → IsToldSo (IsNotKnownText system asked.options.known_faults) error → Stops error c.old c.new left → c.files' ≡ c.files
      → ChecksBy system store asked c left
