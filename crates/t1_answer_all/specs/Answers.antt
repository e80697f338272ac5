-- What is answered to the words of the command line, and which files are replaced.
use Rattle.std.specs.Prelude.{◌≡◌, ◌⊎◌, ℕ, List, map, string_bytes}
use Rattle.std.specs.Global.{Global}
use Rattle.std.specs.declared.string.String.{String}
use Rattle.std.specs.declared.vec.Vec.{Vec}
use Rattle.t1_forms.specs.PageValues.{PageValue}
use Rattle.t1_options.specs.Words.{IsRefused, IsTaken}
use Rattle.t1_options.specs.declared.asked.Options.{Options}
use Rattle.t1_options.specs.declared.asked.Request.TheVariants.{Check, Explain, Version}
use Rattle.t1_run.specs.Opening.{Sinks}
use Rattle.t1_run.specs.Telling.{Explains, Gives}
use Rattle.t1_run.specs.declared.status.Status.{Status}
use Rattle.t1_run.specs.declared.status.Status.TheVariants.{Clean, Failed}
use Rattle.t1_run.specs.declared.usage.UsageError.{UsageError}
use Rattle.t1_answer_all.specs.Checking.{ChecksBy}
use Rattle.t1_answer_all.specs.Explaining.{ExplainsPages}
use Rattle.t1_answer_all.specs.Replacing.{Replaces}
use Rattle.t1_answer_all.specs.Plans.{AskedValue}
use Rattle.t1_answer_all.specs.Endings.{LeftValue}
use Rattle.t1_answer_all.specs.Runs.{program}
use Rattle.t1_answer_all.specs.Stores.{Change, Store, fonts_of, replacing_of}
use Rattle.t1_io.specs.Devices.{CallFailed, Flushed, SinkState}
use Rattle.t1_options.specs.Settings.Finding.{System, since, until}

-- What an answer is made from, besides files: the texts of help and of the version, and the pages of rules and refusals.
pub record Givens : Type 0 where
  pub help : List ℕ
  pub version : List ℕ
  pub pages : List PageValue

-- The fonts that the options name are listed and checked, or why not is printed; then the files are replaced that are left to be.
pub record Checks {F : Type 0} (system : System) (store : Store F) (asked : AskedValue) (c : Change F) (status : Status) : Type 0 where
  pub between : F
  pub behind : Sinks
  pub left : LeftValue
  pub checks :
      ChecksBy system (fonts_of store) asked (record { files = c.files; files' = between; old = c.old; new = behind }) left
  pub replaces :
      Replaces (replacing_of store) asked.options left
      (record { files = between; files' = c.files'; errors = behind.errors; errors' = c.new.errors }) status
  pub out_is : c.new.out ≡ behind.out

-- The words are answered: with help or with what is wrong, with the version, with the pages whose codes they are, or with a check of the fonts that
-- they name, by the settings too. A document of SARIF has all pages. Where nothing is checked no file is opened or replaced.
pub data AnswersWords {F : Type 0} (given : Givens) (words : List (List ℕ)) (system : System) (store : Store F) (c : Change F) (status : Status)
    : Type 0 where
  explained :
      (error : UsageError) → IsRefused given.help system words error → Explains program error c.old c.new status → c.files' ≡ c.files
      → AnswersWords given words system store c status
  gives_version :
      IsTaken system words Version → Gives program given.version Clean c.old c.new status → c.files' ≡ c.files
      → AnswersWords given words system store c status
  explains_pages :
      (codes : Vec (String Global) Global) → IsTaken system words (Explain codes)
      → ExplainsPages given.pages (map string_bytes codes.items) c.old c.new status → c.files' ≡ c.files
      → AnswersWords given words system store c status
  checks :
      (options : Options) → (asked : system.State) → IsTaken (until system asked) words (Check options)
      → Checks (since system asked) store (record { options = options; pages = given.pages }) c status → AnswersWords given words system store c status

-- Standard error is flushed; where that fails, the status is that of a failure.
abbrev pub FlushesLast : SinkState → SinkState → Status → Status → Type 0
FlushesLast told flushed before status = (Flushed told flushed × (status ≡ before)) ⊎ (CallFailed told flushed × (status ≡ Failed))

-- They are answered so, and standard error is flushed last.
pub record Answers {F : Type 0} (given : Givens) (words : List (List ℕ)) (system : System) (store : Store F) (c : Change F) (status : Status)
    : Type 0 where
  pub told : SinkState
  pub before : Status
  pub answers : AnswersWords given words system store (record c { new = record { out = c.new.out; errors = told } }) before
  pub flushes : FlushesLast told c.new.errors before status
