-- The calls that open and leave the files of fonts and of their waivers.
use Rattle.std.specs.Prelude.{ℕ, List, Option, Result, Ok, Err}
use Rattle.std.specs.IoError.{error_kind}
use Rattle.std.specs.declared.io.Error.{Error}
use Rattle.t1_io.specs.Devices.{SourceState}
use Rattle.t1_names.specs.Causes.{cause_of}
use Rattle.t1_names.specs.declared.causes.Cause.{Cause}

-- What the calls do to a store of files, which is known before and after each.
pub record Calls (F : Type 0) : Type 1 where
  -- The file of the font of a name was opened in this state; or it couldn't be, for this cause.
  pub Opens : F → F → List ℕ → Result SourceState Cause → Type 0
  -- The same of the file of its waivers, if there is one.
  pub OpensWaivers : F → F → List ℕ → Option (Result SourceState Cause) → Type 0
  -- The file of the font of a name was left in this state.
  pub Leaves : F → F → List ℕ → SourceState → Type 0
  -- The same of the file of its waivers.
  pub LeavesWaivers : F → F → List ℕ → SourceState → Type 0

-- The state in which a file was opened, or why it couldn't be.
abbrev pub opened_in : {R : Type 0} → (R → SourceState) → Result R Error → Result SourceState Cause
opened_in state (Ok file) = Ok (state file)
opened_in state (Err error) = Err (cause_of (error_kind error))
