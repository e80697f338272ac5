-- What the program does with the words of the command line.
use Rattle.std.specs.Prelude.{◌≡◌, List, [], option_map, string_bytes}
use Rattle.clap.specs.Words.{Text, fault_of}
use Rattle.t1_run.specs.Programs.{Meaning}
use Rattle.t1_run.specs.Words.{AreRefused}
use Rattle.t1_answer.specs.declared.asked.CheckOptions.{CheckOptions}
use Rattle.t1_answer.specs.CommandLine.{AreGiven, t1check}
use Rattle.t1_answer.specs.Shows.{Shows}
use Rattle.t1_answer.specs.Told.{program}
use Rattle.t1_answer.specs.Waived.{waivers_named}

-- The options are those that the words yield by clap's rules, which find no fault in the words.
pub record AreTaken (words : List Text) (options : CheckOptions) : Type 0 where
  pub given : AreGiven words options
  pub sound : fault_of t1check words ≡ []

-- What this program makes of its words.
abbrev pub checking : Meaning CheckOptions
checking = record {
  name = program;
  Yields = AreTaken;
  Refuses = AreRefused t1check;
  font = λ (options : CheckOptions). option_map string_bytes options.file;
  waivers = waivers_named;
  edition = λ (options : CheckOptions). options.edition;
  Shows = Shows;
}
