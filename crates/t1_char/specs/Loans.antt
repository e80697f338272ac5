-- What holds of a machine when the reference to its step is dropped, in the logic of loans.
use Rattle.std.specs.Prelude.{[], ⊤}
use Rattle.std.specs.Borrow.{follows_so, Fml, MutBor}
use mathlib.Core.Option.{none}
use mir.Syntax.{named}
use Rattle.t1_char.specs.contracts.machine.Machine.{the_row}
use Rattle.t1_char.specs.Turns.{MachineView}

abbrev pub Afterwards : MutBor MachineView → (MachineView → Type 0) → Fml
Afterwards m Holds =
    let row = the_row (record { mir = named 0; lft = [] }) in
    follows_so row row m.ghost_name none (λ _ _. ⊤) (λ last. Holds last)
