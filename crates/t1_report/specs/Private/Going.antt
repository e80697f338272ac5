-- A machine that went on to its next step, and the watchers that were moved on with it.
use Rattle.std.specs.Prelude.{◌≡◌}
use Rattle.t1_char.specs.declared.lines.Passing.{Passing}
use Rattle.t1_char.specs.declared.lines.Way.{Way}
use Rattle.t1_char.specs.Lines.{IsAskedFar}
use Rattle.t1_char.specs.Turns.{MachineView, TurnValue}
use Rattle.t1_rules.specs.declared.watches.Watches.{Watches}
use Rattle.t1_rules.specs.Steady.{moved_on}
use Rattle.t1_report.specs.Private.Fitting.{IsFit}

-- The same watchers, but for what only speed depends on.
abbrev pub idled : Watches → Watches → Watches
idled watches other = record watches { idling = other.idling }

-- It passed what fits the watchers, and these were moved on by the way of it.
pub record HasGone (machine : MachineView) (watches : Watches) (new : MachineView) (seen : Watches) (answer : TurnValue) : Type 0 where
  pub what : Passing
  pub way : Way
  pub fit : IsFit machine.edition what watches
  pub asked : IsAskedFar what machine new answer way
  pub moved : seen ≡ idled (moved_on watches way) seen
