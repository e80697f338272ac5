-- How what a program has to say ends: on standard error, on the output.
use Rattle.std.specs.Prelude.{◌≡◌, ℕ, List, string_bytes}
use Rattle.t1_io.specs.Devices.{Delivered, DeliveryFailed, PutFailed, SinkState, Wrote}
use Rattle.t1_run.specs.Failures.{out_of_memory_line, write_failed_line}
use Rattle.t1_run.specs.Opening.{Sinks}
use Rattle.t1_run.specs.declared.status.Status.{Status}
use Rattle.t1_run.specs.declared.status.Status.TheVariants.{Clean, Failed}
use Rattle.t1_run.specs.declared.usage.UsageError.{UsageError}
use Rattle.t1_run.specs.declared.usage.UsageError.TheVariants.{Help, Usage, Memory}

-- A text was to be printed on standard error, and then a status to be returned; if printing fails, that is Failed.
pub data Tells (text : List ℕ) (status : Status) (errors errors' : SinkState) (result : Status) : Type 0 where
  told : Wrote errors errors' text → result ≡ status → Tells text status errors errors' result
  untold : PutFailed errors errors' text → result ≡ Failed → Tells text status errors errors' result

-- A text was to be printed on the output and flushed once, and then a status to be returned. If that fails, this is
-- printed under the program's name.
pub data Gives (program text : List ℕ) (status : Status) (sinks sinks' : Sinks) (result : Status) : Type 0 where
  given :
      Delivered sinks.out sinks'.out text → sinks'.errors ≡ sinks.errors → result ≡ status
      → Gives program text status sinks sinks' result
  ungiven :
      DeliveryFailed sinks.out sinks'.out text → Tells (write_failed_line program) Failed sinks.errors sinks'.errors result
      → Gives program text status sinks sinks' result

-- What is printed for words of the command line that yield no options: help on the output, all else on standard error.
abbrev pub Explains : List ℕ → UsageError → Sinks → Sinks → Status → Type 0
Explains program (Help text) sinks sinks' result = Gives program (string_bytes text) Clean sinks sinks' result
Explains program (Usage text) sinks sinks' result =
    (sinks'.out ≡ sinks.out) × Tells (string_bytes text) Failed sinks.errors sinks'.errors result
Explains program Memory sinks sinks' result =
    (sinks'.out ≡ sinks.out) × Tells (out_of_memory_line program) Failed sinks.errors sinks'.errors result
