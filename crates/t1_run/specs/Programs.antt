-- A program that reads one font: what its words mean, and how its run ends.
use Rattle.std.specs.Prelude.{◌≡◌, ℕ, Bool, true, false, List, Option, Ok, Err}
use Rattle.std.specs.Option.{is_some}
use Rattle.clap.specs.Words.{Text}
use Rattle.t1_char.specs.declared.edition.Edition.{Edition}
use Rattle.t1_font.specs.Fonts.{FontValue}
use Rattle.t1_io.specs.Devices.{SourceState}
use Rattle.t1_report.specs.Refusals.{Refusal}
use Rattle.t1_report.specs.Waivers.{Waiver}
use Rattle.t1_run.specs.Failures.{failure_line, failure_of, failure_status, out_of_memory_line, read_failed_line}
use Rattle.t1_run.specs.FontFiles.{AreRead}
use Rattle.t1_run.specs.Opening.{Sinks, Transition}
use Rattle.t1_run.specs.Telling.{Tells}
use Rattle.t1_run.specs.WaiverFiles.{AreWaived, IsHeard}
use Rattle.t1_run.specs.declared.status.Status.{Status}
use Rattle.t1_run.specs.declared.status.Status.TheVariants.{Failed, Refused}
use Rattle.t1_run.specs.declared.usage.UsageError.{UsageError}

-- What a program makes of its words.
pub record Meaning (Options : Type 0) : Type 1 where
  -- Its name.
  pub name : List ℕ
  -- The words yield these options; or they yield none, for this reason.
  pub Yields : List Text → Options → Type 0
  pub Refuses : List Text → UsageError → Type 0
  -- The name of the font's file, without which standard input is read, and of the file of waivers that is to be read.
  pub font : Options → Option Text
  pub waivers : Options → Option Text
  -- The edition of the rule book, by which waivers are read.
  pub edition : Options → Edition
  -- What was requested of a font was printed, by waivers, with this status.
  pub Shows : Options → FontValue → List Waiver → Sinks → Sinks → Status → Type 0

-- Waivers are requested where their file is named.
abbrev pub asks_waivers : {Options : Type 0} → Meaning Options → Options → Bool
asks_waivers program options = is_some (program.waivers options)

-- How a run ends that read this font. The waivers are read first, if they are requested.
pub data EndsWith {Options : Type 0} (program : Meaning Options) (options : Options) (font : FontValue) (waivers : Transition SourceState)
    (sinks : Transition Sinks) (result : Status) : Type 0 where
  shown :
      (waived : List Waiver) → AreWaived (program.edition options) (asks_waivers program options) waivers.old.left (Ok waived)
      → IsHeard (asks_waivers program options) waivers.old waivers.new → program.Shows options font waived sinks.old sinks.new result
      → EndsWith program options font waivers sinks result
  -- status 2
  waivers_refused :
      (reason : Refusal) → AreWaived (program.edition options) (asks_waivers program options) waivers.old.left (Err reason)
      → IsHeard (asks_waivers program options) waivers.old waivers.new → sinks.new.out ≡ sinks.old.out
      → Tells (failure_line program.name (failure_of reason)) Refused sinks.old.errors sinks.new.errors result
      → EndsWith program options font waivers sinks result
  -- status 3
  waivers_unread :
      asks_waivers program options ≡ true → waivers.new.failed ≡ true → sinks.new.out ≡ sinks.old.out
      → Tells (read_failed_line program.name) Failed sinks.old.errors sinks.new.errors result
      → EndsWith program options font waivers sinks result
  -- status 3
  no_room :
      asks_waivers program options ≡ true → waivers.new.failed ≡ waivers.old.failed → sinks.new.out ≡ sinks.old.out
      → Tells (out_of_memory_line program.name) Failed sinks.old.errors sinks.new.errors result
      → EndsWith program options font waivers sinks result

-- How a run ends on the sources of a font and of waivers.
pub data Ends {Options : Type 0} (program : Meaning Options) (options : Options) (source waivers : Transition SourceState)
    (sinks : Transition Sinks) (result : Status) : Type 0 where
  font_read :
      (font : FontValue) → AreRead source.old.left (Ok font) → source.new.failed ≡ false
      → EndsWith program options font waivers sinks result → Ends program options source waivers sinks result
  -- status 2
  font_refused :
      (reason : Refusal) → AreRead source.old.left (Err reason) → source.new.failed ≡ false → waivers.new ≡ waivers.old
      → sinks.new.out ≡ sinks.old.out
      → Tells (failure_line program.name (failure_of reason)) (failure_status (failure_of reason)) sinks.old.errors sinks.new.errors result
      → Ends program options source waivers sinks result
  -- status 3
  read_failed :
      source.new.failed ≡ true → waivers.new ≡ waivers.old → sinks.new.out ≡ sinks.old.out
      → Tells (read_failed_line program.name) Failed sinks.old.errors sinks.new.errors result
      → Ends program options source waivers sinks result
  -- status 3
  no_memory :
      source.new.failed ≡ false → waivers.new ≡ waivers.old → sinks.new.out ≡ sinks.old.out
      → Tells (out_of_memory_line program.name) Failed sinks.old.errors sinks.new.errors result
      → Ends program options source waivers sinks result
