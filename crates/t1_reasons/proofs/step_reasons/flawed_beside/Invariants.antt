use Rattle.std.proofs.Common.{◌≡◌, length}
use Rattle.std.specs.List.{find}
use Rattle.t1_reasons.specs.StepReasons.{beside, is_flawed_pair}
use Rattle.t1_reasons.proofs.step_reasons.flawed_beside.Given as goal

abbrev pub invariant-loop-rest : goal.invariant-loop-rest
invariant-loop-rest l = find (is_flawed_pair l.flaw) (beside l.own l.rest) ≡ find (is_flawed_pair l.flaw) (beside l.own l.others)

abbrev pub decreases-loop-rest : goal.decreases-loop-rest
decreases-loop-rest l = length l.rest
