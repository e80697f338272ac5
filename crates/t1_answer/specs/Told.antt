-- What is printed under the program's name of a font or waivers that aren't read, and the status.
use Rattle.std.specs.Prelude.{ℕ, List, codes}
use Rattle.t1_report.specs.Refusals.{Refusal}
use Rattle.t1_run.specs.Failures.{failure_line, failure_of, failure_status}
use Rattle.t1_run.specs.declared.status.Status.{Status}

abbrev pub program : List ℕ
program = codes "t1check"

-- The line of a refusal, by its number. For memory, which refuses nothing, that memory ran out.
abbrev pub told_of : Refusal → List ℕ
told_of reason = failure_line program (failure_of reason)

abbrev pub unread_status : Refusal → Status
unread_status reason = failure_status (failure_of reason)
