use Rattle.std.proofs.Common.{◌≡◌, length}
use Rattle.std.specs.List.{find}
use Rattle.t1_reasons.specs.StepReasons.{is_flawed_pair, pairs}
use Rattle.t1_reasons.proofs.step_reasons.flawed_of_two.Given as goal

abbrev pub invariant-loop-rest : goal.invariant-loop-rest
invariant-loop-rest l = find (is_flawed_pair l.flaw) (pairs l.rest) ≡ find (is_flawed_pair l.flaw) (pairs l.stems)

abbrev pub decreases-loop-rest : goal.decreases-loop-rest
decreases-loop-rest l = length l.rest
