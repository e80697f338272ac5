-- The file of known faults from now on, while it is made.
use Rattle.std.specs.Prelude.{◌≡◌, ℕ, List, Option, option_map, Result, Ok, Err}
use Rattle.std.specs.Global.{Global}
use Rattle.std.specs.declared.vec.Vec.{Vec}
use Rattle.t1_answer_all.specs.Endings.{AreFoundBy, known_faults_in}
use Rattle.t1_answer_all.specs.Modes.{ModeValue}
use Rattle.t1_many.specs.Choice.{Choice}
use Rattle.t1_many.specs.KnownFaults.{Reading}
use Rattle.t1_many.specs.declared.readings.Reading.{Reading as Kept}
use Rattle.t1_many.specs.declared.policy.Lost.{Lost}
use Rattle.t1_many.specs.declared.policy.Lost.TheVariants.{Device, Memory}

-- The text of the file anew; or memory ran out.
abbrev pub IsUpdated : ModeValue → Choice → List Kept → Result (Option (Vec ℕ Global)) Lost → Type 0
IsUpdated mode choice kept (Ok text) =
    (all : List Reading) → AreFoundBy mode kept all → option_map (λ t. t.items) text ≡ known_faults_in mode choice all
IsUpdated mode choice kept (Err Device) = ⊥
IsUpdated mode choice kept (Err Memory) = Unit {0}
