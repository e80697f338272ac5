use Rattle.std.proofs.Common.{◌≡◌, take, ◌+◌, ◌-◌}
use Rattle.t1_char.specs.Editions.{limit_of}
use Rattle.t1_char.specs.Steps.{steps_of}
use Rattle.t1_char.proofs.TurnsTaken.{Executes}
use Rattle.t1_rules.specs.Components.{component_in}
use Rattle.t1_rules.proofs.sidebearings.component_of_glyph.Given as goal

abbrev pub invariant-loop-component : goal.invariant-loop-component
invariant-loop-component l = record {
  same : Executes l.fn.edition l.font l.glyph l.machine;
  component : l.component ≡ component_in (take l.machine.counted (take (limit_of l.fn.edition) (steps_of l.font l.glyph)));
}

abbrev pub decreases-loop-component : goal.decreases-loop-component
decreases-loop-component l = limit_of l.fn.edition + 1 - l.machine.counted
