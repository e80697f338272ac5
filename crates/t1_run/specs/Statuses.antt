-- The status that the process ends with.
use Rattle.std.specs.Prelude.{ℕ}
use Rattle.t1_run.specs.declared.status.Status.{Status}
use Rattle.t1_run.specs.declared.status.Status.TheVariants.{Clean, Faults, Refused, Failed}

abbrev pub exit_code_of : Status → ℕ
exit_code_of Clean = 0
exit_code_of Faults = 1
exit_code_of Refused = 2
exit_code_of Failed = 3
