-- How the steps of a check end.
use Rattle.std.specs.Prelude.{◌≡◌, ℕ, Bool, true, false, List, Option, None, Result, Ok, Err}
use Rattle.t1_char.specs.declared.edition.Edition.{Edition}
use Rattle.t1_font.specs.FontFiles.{font_in}
use Rattle.t1_font.specs.Fonts.{FontValue}
use Rattle.t1_io.specs.Devices.{SourceState}
use Rattle.t1_report.specs.Waivers.{waivers_of}
use Rattle.t1_run.specs.FontFiles.{with_reason}
use Rattle.t1_run.specs.WaiverFiles.{AreWaived, IsHeard, as_waivers}
use Rattle.t1_run.specs.declared.failure.Failure.{Failure}
use Rattle.t1_many.specs.FontErrors.{error_of}
use Rattle.t1_many.specs.declared.font_error.FontError.{FontError}
use Rattle.t1_names.specs.declared.causes.Cause.{Cause}
use Rattle.t1_many.specs.Files.{ChecksIn, Files, Given, IsFound}
use Rattle.t1_many.specs.Handing.{lost_of}
use Rattle.t1_many.specs.Outcomes.{Entry, Outcome, Report, failed, reported}
use Rattle.t1_many.specs.Recipients.{Recipient}
use Rattle.t1_many.specs.declared.policy.Lost.{Lost}

-- A font that was read of a file's bytes.
abbrev pub IsFont : FontValue → Type 0
IsFont font = (bytes : List ℕ) × (font_in bytes ≡ Ok font)

-- What is known of the waivers' text, of its file, of the font's bytes, and of their file, each wrapped around
-- the one before.
abbrev pub of_text : Edition → FontValue → List ℕ → Given
of_text edition font text = record {
  Reads = λ read. read ≡ Ok font;
  Breaks = ⊥;
  Waives = λ waived. as_waivers (waivers_of edition text) ≡ waived;
  BreaksWaivers = ⊥;
}

abbrev pub of_font : Edition → FontValue → Bool → SourceState → SourceState → Given
of_font edition font asked old new = record {
  Reads = λ read. read ≡ Ok font;
  Breaks = ⊥;
  Waives = λ waived. AreWaived edition asked old.left waived × IsHeard asked old new;
  BreaksWaivers = (asked ≡ true) × (new.failed ≡ true);
}

abbrev pub of_bytes : Edition → List ℕ → Bool → SourceState → SourceState → Given
of_bytes edition bytes asked old new = record {
  Reads = λ read. with_reason (font_in bytes) ≡ read;
  Breaks = ⊥;
  Waives = λ waived. AreWaived edition asked old.left waived × IsHeard asked old new;
  BreaksWaivers = (asked ≡ true) × (new.failed ≡ true);
}

-- The report of a font was taken; or there is none, and nothing was done.
abbrev pub Checks : {T : Type 0} → Recipient Entry (Option Lost) → Edition → List ℕ → Given → Result (Result T Lost) Failure → Type 0
Checks recipient edition name given (Ok taken) =
    (report : Report) × IsFound edition given (reported report)
    × recipient.takes recipient.old recipient.new (record { name = name; outcome = reported report }) (lost_of taken)
Checks recipient edition name given (Err failure) = IsFound edition given (failed (error_of failure)) × (recipient.new ≡ recipient.old)

-- The same, with all that was done to the files.
abbrev pub ChecksNamed : {T : Type 0} → Recipient Entry (Option Lost) → Files → Edition → List ℕ → Result (Result T Lost) FontError → Type 0
ChecksNamed recipient files edition name (Ok taken) =
    (report : Report) × ChecksIn files edition name (reported report)
    × recipient.takes recipient.old recipient.new (record { name = name; outcome = reported report }) (lost_of taken)
ChecksNamed recipient files edition name (Err error) = ChecksIn files edition name (failed error) × (recipient.new ≡ recipient.old)

-- What a check gave, or why there is no report.
abbrev pub or_error : {T : Type 0} → Result T Failure → Result T FontError
or_error (Ok taken) = Ok taken
or_error (Err failure) = Err (error_of failure)

-- How the check of a font ended was taken.
abbrev pub TakesOne : Recipient Entry (Option Lost) → Files → Edition → List ℕ → Option Lost → Type 0
TakesOne recipient files edition name lost =
    (outcome : Outcome) × ChecksIn files edition name outcome
    × recipient.takes recipient.old recipient.new (record { name = name; outcome = outcome }) lost

-- A font's waivers were asked for, if they are to be: they have a file that could be opened or not, or none. The store of files takes the name.
abbrev pub AsksWaivers : Recipient (List ℕ) (Option (Result SourceState Cause)) → Bool → List ℕ → Option (Result SourceState Cause) → Type 0
AsksWaivers files true name opened = files.takes files.old files.new name opened
AsksWaivers files false name opened = (files.new ≡ files.old) × (opened ≡ None)
