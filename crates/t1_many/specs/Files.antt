-- The files of fonts and of their waivers, and what they hold.
use Rattle.std.specs.Prelude.{◌≡◌, ◌+◌, ℕ, Bool, true, false, List, None, Some, Result, Ok, Err}
use Rattle.t1_char.specs.declared.edition.Edition.{Edition}
use Rattle.t1_font.specs.Fonts.{FontValue}
use Rattle.t1_io.specs.Devices.{SourceState}
use Rattle.t1_report.specs.Refusals.{Refusal}
use Rattle.t1_report.specs.Checked.{checked}
use Rattle.t1_report.specs.Reports.{IsReport}
use Rattle.t1_report.specs.Waivers.{Waiver, largest_waivers}
use Rattle.t1_run.specs.Failures.{failure_of}
use Rattle.t1_run.specs.FontFiles.{AreRead, largest_file}
use Rattle.t1_run.specs.Input.{ReadsAtMost, StopsAt}
use Rattle.t1_run.specs.WaiverFiles.{AreWaived, IsHeard}
use Rattle.t1_run.specs.declared.failure.Failure.TheVariants.{Broken, Memory}
use Rattle.t1_many.specs.FontErrors.{error_of, unread, waivers_unread}
use Rattle.t1_many.specs.Unchecked.{has_line_end}
use Rattle.t1_many.specs.declared.font_error.FontError.TheVariants.{Unchecked}
use Rattle.t1_many.specs.declared.font_error.Obstacle.TheVariants.{LineEnd}
use Rattle.t1_names.specs.declared.causes.Cause.{Cause}
use Rattle.t1_many.specs.Calls.{Calls}
use Rattle.t1_many.specs.FontFiles.{asks}
use Rattle.t1_many.specs.Outcomes.{Outcome, Report, failed, reported}
use Rattle.t1_many.specs.declared.font_files.WaiverFiles.{WaiverFiles}

-- What is known of the files of a font.
pub record Given : Type 1 where
  -- The font's file is read so: as a font, or not for a reason.
  pub Reads : Result FontValue Refusal → Type 0
  -- A read of it failed.
  pub Breaks : Type 0
  -- The waivers are read so: those of their file, or none where there is no such file.
  pub Waives : Result (List Waiver) Refusal → Type 0
  -- A read of the file of waivers failed.
  pub BreaksWaivers : Type 0

-- How the check of a font ends by what its files hold. The waivers are read once the font is.
pub data IsFound (edition : Edition) (given : Given) (outcome : Outcome) : Type 0 where
  reports :
      (report : Report) → given.Reads (Ok report.font) → given.Waives (Ok report.waivers)
      → report.edition ≡ edition → IsReport (checked report.font edition) report.waivers report.faults → outcome ≡ reported report
      → IsFound edition given outcome
  refused : (reason : Refusal) → given.Reads (Err reason) → outcome ≡ failed (error_of (failure_of reason)) → IsFound edition given outcome
  waivers_refused :
      (font : FontValue) → given.Reads (Ok font) → (reason : Refusal) → given.Waives (Err reason)
      → outcome ≡ failed (error_of (failure_of reason)) → IsFound edition given outcome
  breaks : given.Breaks → outcome ≡ failed (error_of Broken) → IsFound edition given outcome
  breaks_waivers :
      (font : FontValue) → given.Reads (Ok font) → given.BreaksWaivers → outcome ≡ failed (error_of Broken) → IsFound edition given outcome
  -- Memory can run out anywhere.
  no_memory : outcome ≡ failed (error_of Memory) → IsFound edition given outcome

-- What is known of the files of a font that was opened, and of its waivers where they are asked for, by their states before the first read and
-- after the last one. The font's file was read to its end or past its limit, unless a read failed or memory ran out.
abbrev pub given_by : Edition → SourceState → SourceState → Bool → SourceState → SourceState → Given
given_by edition source source' asked waivers waivers' = record {
  Reads = λ read. AreRead source.left read × (source'.failed ≡ false) × StopsAt largest_file source source' ⊥;
  Breaks = source'.failed ≡ true;
  Waives = λ waived. AreWaived edition asked waivers.left waived × IsHeard asked waivers waivers';
  BreaksWaivers = (asked ≡ true) × (waivers'.failed ≡ true);
}

-- The files of a run: the store that has them, its calls, what becomes of files of waivers, and the store before the run and after it.
pub record Files : Type 1 where
  pub Store : Type 0
  pub calls : Calls Store
  pub beside : WaiverFiles
  pub old : Store
  pub new : Store

abbrev pub files_by : {F : Type 0} → Calls F → WaiverFiles → F → F → Files
files_by {F} calls beside old new = record { Store = F; calls = calls; beside = beside; old = old; new = new }

-- At most so many bytes of a file were read. No read came after one that failed or found the end.
pub record ReadsUpTo (most : ℕ) (old new : SourceState) : Type 0 where
  pub reads : ReadsAtMost most old new
  pub none_late : new.late_takes ≡ old.late_takes

-- Nothing was done to the files.
abbrev pub AreUntouched : Files → Type 0
AreUntouched files = files.new ≡ files.old

-- A font has no waivers: none are asked for, or there is no such file.
abbrev pub HasNoWaivers : {F : Type 0} → Calls F → Bool → List ℕ → F → F → Type 0
HasNoWaivers calls true name old new = calls.OpensWaivers old new name None
HasNoWaivers calls false name old new = new ≡ old

-- The check of the font of a name, and all that it did to the files: it opened the font, and its waivers where they are asked for, both before it
-- read any, and left both. No read followed the end, the limit or a read that failed. A font whose name has a line end isn't opened.
pub data ChecksIn (files : Files) (edition : Edition) (name : List ℕ) (outcome : Outcome) : Type 0 where
  no_line : has_line_end name ≡ true → files.new ≡ files.old → outcome ≡ failed (Unchecked LineEnd) → ChecksIn files edition name outcome
  cannot_open :
      has_line_end name ≡ false → (cause : Cause) → files.calls.Opens files.old files.new name (Err cause) → outcome ≡ failed (unread cause)
      → ChecksIn files edition name outcome
  cannot_open_waivers :
      has_line_end name ≡ false → (opened asked : files.Store) → (source : SourceState) → files.calls.Opens files.old opened name (Ok source)
      → asks files.beside name ≡ true → (cause : Cause) → files.calls.OpensWaivers opened asked name (Some (Err cause))
      → files.calls.Leaves asked files.new name source → outcome ≡ failed (waivers_unread cause) → ChecksIn files edition name outcome
  without_waivers :
      has_line_end name ≡ false → (opened asked : files.Store) → (source source' waivers waivers' : SourceState)
      → files.calls.Opens files.old opened name (Ok source) → HasNoWaivers files.calls (asks files.beside name) name opened asked
      → files.calls.Leaves asked files.new name source' → ReadsUpTo (largest_file + 1) source source'
      → IsFound edition (given_by edition source source' false waivers waivers') outcome
      → ChecksIn files edition name outcome
  with_waivers :
      has_line_end name ≡ false → (opened asked left : files.Store) → (source source' waivers waivers' : SourceState)
      → files.calls.Opens files.old opened name (Ok source) → asks files.beside name ≡ true
      → files.calls.OpensWaivers opened asked name (Some (Ok waivers))
      → files.calls.Leaves asked left name source' → files.calls.LeavesWaivers left files.new name waivers'
      → ReadsUpTo (largest_file + 1) source source' → ReadsUpTo (largest_waivers + 1) waivers waivers'
      → IsFound edition (given_by edition source source' true waivers waivers') outcome
      → ChecksIn files edition name outcome
