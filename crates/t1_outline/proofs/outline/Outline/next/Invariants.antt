use Rattle.std.proofs.Common.{◌≡◌, ◌+◌, ◌-◌}
use Rattle.t1_char.specs.Editions.{limit_of}
use Rattle.t1_outline.specs.Private.Outlining.{IsOutlining, left_in}
use Rattle.t1_outline.proofs.outline.Outline.next.Given as goal

abbrev pub invariant-loop-segment : goal.invariant-loop-segment
invariant-loop-segment l = record {
  seen : IsOutlining l.self-inside.machine l.self-inside.pen;
  left : left_in l.self-inside.machine l.self-inside.drawn.items l.self-inside.given ≡ l.fn.self;
}

abbrev pub decreases-loop-segment : goal.decreases-loop-segment
decreases-loop-segment l = limit_of l.self-inside.machine.edition + 1 - l.self-inside.machine.counted
