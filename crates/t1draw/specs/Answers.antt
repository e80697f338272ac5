-- What the program makes of the words of the command line.
use Rattle.std.specs.Prelude.{option_map, string_bytes}
use Rattle.t1_run.specs.Programs.{Meaning}
use Rattle.t1draw.specs.CommandLine.{AreTaken, AreUntaken}
use Rattle.t1draw.specs.Draws.{Draws, program}
use Rattle.t1draw.specs.declared.options.DrawOptions.{DrawOptions}

abbrev pub drawing : Meaning DrawOptions
drawing = record {
  name = program;
  Yields = AreTaken;
  Refuses = AreUntaken;
  font = λ (options : DrawOptions). option_map string_bytes options.font;
  waivers = λ (options : DrawOptions). option_map string_bytes options.waive;
  edition = λ (options : DrawOptions). options.edition;
  Shows = Draws;
}
