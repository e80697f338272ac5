-- What a program does with the words of its command line: it explains them, or runs on the files that they name.
use Rattle.std.specs.Prelude.{◌≡◌, false, List, Option, None, Some}
use Rattle.clap.specs.Words.{Text}
use Rattle.t1_io.specs.Devices.{SourceState}
use Rattle.t1_run.specs.Failures.{read_failed_line}
use Rattle.t1_run.specs.Opening.{Files, NamedFile, NoneIsOpened, Sinks, Transition}
use Rattle.t1_run.specs.Programs.{Ends, Meaning}
use Rattle.t1_run.specs.Telling.{Explains, Tells}
use Rattle.t1_run.specs.declared.status.Status.{Status}
use Rattle.t1_run.specs.declared.status.Status.TheVariants.{Failed}
use Rattle.t1_run.specs.declared.usage.UsageError.{UsageError}

-- The words yield options, and these name this file of a font.
abbrev pub NamesFont : {Options : Type 0} → Meaning Options → List Text → Text → Type 0
NamesFont program words name = (options : _) × (program.Yields words options × (program.font options ≡ Some name))

-- The words yield options, and by these this file of waivers is to be read.
abbrev pub NamesWaivers : {Options : Type 0} → Meaning Options → List Text → Text → Type 0
NamesWaivers program words name = (options : _) × (program.Yields words options × (program.waivers options ≡ Some name))

-- The source of waivers. It is of the file that is to be read, which is returned; without one no file is opened.
pub data IsOpened (file : NamedFile) (named : Option Text) (source : Transition SourceState) : Type 0 where
  opened :
      (name : Text) → named ≡ Some name → file.opening.Opens name source.old.left → source.old.failed ≡ false → file.left ≡ Some source.new
      → IsOpened file named source
  none_named : named ≡ None → source.old.failed ≡ false → file.left ≡ None → IsOpened file named source

-- A run on a source, with the waivers that are to be read; or their file can't be opened, and the source is left alone.
pub data RunsOn {Options : Type 0} (program : Meaning Options) (options : Options) (file : NamedFile) (source : Transition SourceState)
    (sinks : Transition Sinks) (result : Status) : Type 0 where
  ran :
      (waivers : Transition SourceState) → IsOpened file (program.waivers options) waivers
      → Ends program options source waivers sinks result → RunsOn program options file source sinks result
  no_waivers :
      (name : Text) → program.waivers options ≡ Some name → file.opening.CannotOpen name → source.new ≡ source.old → file.left ≡ None
      → sinks.new.out ≡ sinks.old.out → Tells (read_failed_line program.name) Failed sinks.old.errors sinks.new.errors result
      → RunsOn program options file source sinks result

-- It is explained why the words yield no options, or they lead to a run on standard input or on the file that they name, if that can be opened.
-- What is said of a read is tied to the source that was read: standard input before and after, and the files as they
-- are left. Standard input is left alone unless no file is named. No file is returned that wasn't opened: no font where
-- none is named, no waivers where none are to be read, none at all where the words yield no options. The font's file is
-- opened before that of the waivers, and both before any is read.
pub data Answers {Options : Type 0} (program : Meaning Options) (words : List Text) (files : Files) (input : Transition SourceState)
    (sinks : Transition Sinks) (result : Status) : Type 0 where
  explained :
      (error : UsageError) → program.Refuses words error → NoneIsOpened files → input.new ≡ input.old
      → Explains program.name error sinks.old sinks.new result → Answers program words files input sinks result
  read_input :
      (options : Options) → program.Yields words options → program.font options ≡ None → files.font.left ≡ None
      → RunsOn program options files.waivers input sinks result → Answers program words files input sinks result
  read_file :
      (options : Options) (name : Text) → program.Yields words options → program.font options ≡ Some name → input.new ≡ input.old
      → (source : Transition SourceState) → source.old.failed ≡ false → files.font.opening.Opens name source.old.left
      → files.font.left ≡ Some source.new → RunsOn program options files.waivers source sinks result
      → Answers program words files input sinks result
  not_opened :
      (options : Options) (name : Text) → program.Yields words options → program.font options ≡ Some name → NoneIsOpened files
      → input.new ≡ input.old → files.font.opening.CannotOpen name → sinks.new.out ≡ sinks.old.out
      → Tells (read_failed_line program.name) Failed sinks.old.errors sinks.new.errors result
      → Answers program words files input sinks result
