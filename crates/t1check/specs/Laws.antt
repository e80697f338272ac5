-- The statement of the law: from words and files to the answer.
use Rattle.std.specs.Prelude.{◌≡◌, ◌≢◌, ℕ, false, List, Option, None, Some, option_map, string_bytes}
use Rattle.clap.specs.Words.{Text}
use Rattle.t1_answer.specs.CommandLine.{t1check}
use Rattle.t1_answer.specs.Laws.Runs.{Answered, IfKnown}
use Rattle.t1_answer.specs.Waived.{waivers_named}
use Rattle.t1_answer.specs.Words.{AreTaken, checking}
use Rattle.t1_answer.specs.declared.asked.CheckOptions.{CheckOptions}
use Rattle.t1_io.specs.Devices.{Delivered, SourceState}
use Rattle.t1_run.specs.Answering.{Answers}
use Rattle.t1_run.specs.Opening.{NamedFile, Opening, Sinks, Transition}
use Rattle.t1_run.specs.Words.{AreRefused}
use Rattle.t1_run.specs.declared.status.Status.{Status}
use Rattle.t1_run.specs.declared.status.Status.TheVariants.{Failed}
use Rattle.t1_run.specs.declared.usage.UsageError.TheVariants.{Help}

-- What names lead to: the bytes of a file, where they are known, or nothing that can be opened.
abbrev pub Folder : Type 0
Folder = Text → Option (Option (List ℕ))

-- The way in which its files are opened.
abbrev pub opening_of : Folder → Opening
opening_of folder = record { Opens = λ name left. folder name ≡ Some left; CannotOpen = λ name. folder name ≡ None }

-- The source of the font: the file of the name, or standard input where none is named.
abbrev pub IsFontOf : Folder → SourceState → Option Text → SourceState → Type 0
IsFontOf fonts input None source = source ≡ input
IsFontOf fonts input (Some name) source = fonts name ≡ Some source.left

-- The source of the waivers: the file of the name, where one is to be read.
abbrev pub AreWaiversOf : Folder → Option Text → SourceState → Type 0
AreWaiversOf waivers None source = Unit {0}
AreWaiversOf waivers (Some name) source = waivers name ≡ Some source.left

-- Help was requested, and printed. Or the words yield options, and the one answer was printed: that to them, to the
-- bytes of the font that they name and to the waivers', where these bytes are known.
pub data IsAnswered (words : List Text) (fonts waivers : Folder) (input : SourceState) (sinks : Transition Sinks) (result : Status) : Type 0 where
  helped :
      (text : _) → AreRefused t1check words (Help text) → Delivered sinks.old.out sinks.new.out (string_bytes text)
      → IsAnswered words fonts waivers input sinks result
  answered :
      (options : CheckOptions) → AreTaken words options
      → (source : SourceState) → IsFontOf fonts input (option_map string_bytes options.file) source
      → (text : SourceState) → AreWaiversOf waivers (waivers_named options) text
      → IfKnown options source.left text.left (Answered options result sinks)
      → IsAnswered words fonts waivers input sinks result

-- The file of a name in a folder, as it is left.
abbrev pub file_in : Folder → Option SourceState → NamedFile
file_in folder left = record { opening = opening_of folder; left = left }

-- So it is of what `answer` ensures, unless the status is 3.
abbrev pub WordsAndFilesAreAnswered : Type 0
WordsAndFilesAreAnswered =
    (words : List Text) (fonts waivers : Folder) (font waived : Option SourceState) (input : Transition SourceState)
    (sinks : Transition Sinks) (result : Status)
    → input.old.failed ≡ false → sinks.old.out.failed ≡ false → sinks.old.errors.failed ≡ false
    → Answers checking words (record { font = file_in fonts font; waivers = file_in waivers waived }) input sinks result → result ≢ Failed
    → IsAnswered words fonts waivers input.old sinks result
