-- What is given for each argument, and what is said of it, as the program has it.
use Rattle.std.specs.Prelude.{◌≡◌, option_map, string_bytes}
use Rattle.t1_run.specs.declared.usage.UsageError.{UsageError}
use Rattle.t1_run.specs.declared.usage.UsageError.TheVariants.{Usage}
use Rattle.t1draw.specs.CommandLine.{GivenValue, complaint_text}
use Rattle.t1draw.specs.declared.command_line.Given.{Given}
use Rattle.t1draw.specs.declared.complaint.Complaint.{Complaint}

-- By what its references lead to.
abbrev pub given_value : Given → GivenValue
given_value g = record {
  step = g.step;
  fault = g.fault;
  faulty = g.faulty;
  folder = option_map (λ s. s.now) g.folder;
  word = g.word.now;
  font = option_map (λ s. s.now) g.font;
}

-- The error that says what is wrong.
abbrev pub IsUsageOf : Complaint → UsageError → Type 0
IsUsageOf what error = (text : _) × ((error ≡ Usage text) × (string_bytes text ≡ complaint_text what))
