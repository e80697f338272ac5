-- How a run over many fonts ends, and what is left to do.
use Rattle.std.specs.Prelude.{◌≡◌, ℕ, List, codes, Result, Ok, Err}
use Rattle.t1_answer_all.specs.Endings.{AreFoundBy, Ends, LeftValue, left_value, nothing_left}
use Rattle.t1_answer_all.specs.Plans.{PlanValue, Run}
use Rattle.t1_answer_all.specs.Writing.{WritesIn}
use Rattle.t1_answer_all.specs.declared.findings.Findings.{Findings}
use Rattle.t1_answer_all.specs.declared.ending.Left.{Left}
use Rattle.t1_io.specs.Devices.{SinkState}
use Rattle.t1_many.specs.KnownFaults.{Reading}
use Rattle.t1_many.specs.declared.policy.Lost.{Lost}
use Rattle.t1_many.specs.declared.policy.Lost.TheVariants.{Device, Memory}
use Rattle.t1_run.specs.Failures.{out_of_memory_line, write_failed_line}
use Rattle.t1_run.specs.Opening.{Sinks}
use Rattle.t1_run.specs.Telling.{Tells}
use Rattle.t1_run.specs.declared.status.Status.{Status}
use Rattle.t1_run.specs.declared.status.Status.TheVariants.{Failed}

abbrev pub program : List ℕ
program = codes "t1check-all"

-- Why a run stopped.
abbrev pub lost_line : Lost → List ℕ
lost_line Device = write_failed_line program
lost_line Memory = out_of_memory_line program

-- All that was found is printed, and the files are left to be replaced. Or it stopped, which is printed, and nothing is left.
pub data Concludes (plan : PlanValue) (found : Findings) (old new : SinkState) (left : LeftValue) : Type 0 where
  told :
      (ended : Left)
      → ((all : List Reading) → AreFoundBy plan.mode found.readings.items all → Ends plan found all old new (Ok ended))
      → left ≡ left_value ended → Concludes plan found old new left
  stopped :
      (lost : Lost) → (behind : SinkState)
      → ((all : List Reading) → AreFoundBy plan.mode found.readings.items all → Ends plan found all old behind (Err lost))
      → (status : Status) → Tells (lost_line lost) Failed behind new status → left ≡ nothing_left status → Concludes plan found old new left

-- The same once what is chosen of the fonts was written, and where that stopped.
abbrev pub ConcludesWritten : PlanValue → Result Findings Lost → SinkState → SinkState → LeftValue → Type 0
ConcludesWritten plan (Ok found) old new left = Concludes plan found old new left
ConcludesWritten plan (Err lost) old new left =
    (status : Status) × Tells (lost_line lost) Failed old new status × (left ≡ nothing_left status)

-- What is chosen of the fonts was written, and all was printed. Or it stopped while that was written, which is printed, and nothing is left.
pub data Runs (run : Run) (old new : Sinks) (left : LeftValue) : Type 0 where
  concluded :
      (behind : Sinks) → (found : Findings) → WritesIn run old behind (Ok found) → Concludes run.plan found behind.errors new.errors left
      → new.out ≡ behind.out → Runs run old new left
  stopped :
      (behind : Sinks) → (lost : Lost) → WritesIn run old behind (Err lost) → (status : Status)
      → Tells (lost_line lost) Failed behind.errors new.errors status → new.out ≡ behind.out → left ≡ nothing_left status → Runs run old new left
