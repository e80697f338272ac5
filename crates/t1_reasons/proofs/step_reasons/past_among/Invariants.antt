use Rattle.std.proofs.Common.{◌≡◌, ◌≤◌, ◌+◌, length}
use Rattle.std.specs.List.{find}
use Rattle.t1_reasons.specs.StepReasons.{is_past_range, placed_from}
use Rattle.t1_reasons.proofs.step_reasons.past_among.Given as goal

abbrev pub invariant-loop-rest : goal.invariant-loop-rest
invariant-loop-rest l = record {
  same : find is_past_range (placed_from (l.place + 1) l.rest) ≡ find is_past_range (placed_from 1 l.numbers);
  few : l.place + length l.rest ≤ 24;
}

abbrev pub decreases-loop-rest : goal.decreases-loop-rest
decreases-loop-rest l = length l.rest
