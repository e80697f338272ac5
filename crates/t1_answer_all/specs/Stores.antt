-- What a run does to the files and the devices.
use Rattle.std.specs.Prelude.{◌≡◌, ℕ, Bool, List, Option}
use Rattle.t1_io.specs.Devices.{SinkState}
use Rattle.t1_many.specs.Calls.{Calls}
use Rattle.t1_run.specs.Opening.{Sinks}
use Rattle.t1_names.specs.declared.causes.Cause.{Cause}

-- What the calls do to the files: those that open fonts, one that says how many fonts there are, and those that replace files.
pub record Store (F : Type 0) : Type 1 where
  pub calls : Calls F
  pub Expects : F → F → ℕ → Type 0
  pub Puts : F → F → List ℕ → List ℕ → Option Cause → Type 0
  pub Has : F → F → List ℕ → Bool → Type 0

-- What those do that open fonts, and the one that says how many there are.
pub record Fonts (F : Type 0) : Type 1 where
  pub calls : Calls F
  pub Expects : F → F → ℕ → Type 0

-- What those do that replace files.
pub record Replacing (F : Type 0) : Type 1 where
  pub Puts : F → F → List ℕ → List ℕ → Option Cause → Type 0
  pub Has : F → F → List ℕ → Bool → Type 0

abbrev pub fonts_of : {F : Type 0} → Store F → Fonts F
fonts_of store = record { calls = store.calls; Expects = store.Expects }

abbrev pub replacing_of : {F : Type 0} → Store F → Replacing F
replacing_of store = record { Puts = store.Puts; Has = store.Has }

-- The files and the devices before and after.
pub record Change (F : Type 0) : Type 0 where
  pub files : F
  pub files' : F
  pub old : Sinks
  pub new : Sinks

-- The files and standard error before and after.
pub record Putting (F : Type 0) : Type 0 where
  pub files : F
  pub files' : F
  pub errors : SinkState
  pub errors' : SinkState

-- Nothing was done.
abbrev pub IsNothing : {F : Type 0} → Putting F → Type 0
IsNothing p = (p.files' ≡ p.files) × (p.errors' ≡ p.errors)
