-- What is printed of the use of the program, while it is made.
use Rattle.std.specs.Prelude.{◌≡◌, ℕ, List, Result, Ok, Err}
use Rattle.std.specs.Global.{Global}
use Rattle.std.specs.declared.alloc.AllocError.{AllocError}
use Rattle.std.specs.declared.string.String.{String}
use Rattle.t1_answer_all.specs.Usage.{IsToldSo}
use Rattle.t1_run.specs.declared.usage.UsageError.{UsageError}
use Rattle.t1_run.specs.declared.usage.UsageError.TheVariants.{Memory, Usage}

-- This is printed; or memory ran out.
abbrev pub IsToldOrMemory : List ℕ → UsageError → Type 0
IsToldOrMemory told error = IsToldSo (λ text. text ≡ told) error

-- A text is printed, if there is one.
abbrev pub IsUsageOf : Result (String Global) AllocError → UsageError → Type 0
IsUsageOf (Ok text) error = error ≡ Usage text
IsUsageOf (Err e) error = error ≡ Memory
