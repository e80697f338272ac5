-- How a run ends, by how the lines of its fonts ended.
use Rattle.std.proofs.Common.{◌≡◌, Result, Ok, Err, subst, sym}
use Rattle.t1_answer_all.specs.Layouts.{LayoutValue}
use Rattle.t1_answer_all.specs.Plans.{Run}
use Rattle.t1_answer_all.specs.Endings.{LeftValue}
use Rattle.t1_answer_all.specs.Runs.{ConcludesWritten, Runs}
use Rattle.t1_answer_all.specs.Runs.Runs.{concluded, stopped}
use Rattle.t1_answer_all.specs.Writing.{WritesBy, WritesIn}
use Rattle.t1_answer_all.specs.declared.findings.Findings.{Findings}
use Rattle.t1_many.specs.declared.policy.Lost.{Lost}
use Rattle.t1_run.specs.Opening.{Sinks}

-- What was written by a layout, where that is the plan's
pub written_in : (run : Run) (layout : LayoutValue) (old new : Sinks) (result : Result Findings Lost) → run.plan.layout ≡ layout
    → WritesBy layout run old new result → WritesIn run old new result
written_in run layout old new result is wrote = subst (λ (l : LayoutValue). WritesBy l run old new result) (sym is) wrote

pub run_ends : (run : Run) (old behind new : Sinks) (left : LeftValue) (result : Result Findings Lost) → WritesIn run old behind result
    → ConcludesWritten run.plan result behind.errors new.errors left → new.out ≡ behind.out → Runs run old new left
run_ends run old behind new left (Ok found) wrote ends out = concluded behind found wrote ends out
run_ends run old behind new left (Err lost) wrote (status, tells, is) out = stopped behind lost wrote status tells out is
