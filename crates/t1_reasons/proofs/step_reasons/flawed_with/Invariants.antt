use Rattle.std.proofs.Common.{◌≡◌, length}
use Rattle.std.specs.List.{find, flat_map}
use Rattle.t1_reasons.specs.StepReasons.{beside, is_flawed_pair}
use Rattle.t1_reasons.proofs.step_reasons.flawed_with.Given as goal

abbrev pub invariant-loop-rest : goal.invariant-loop-rest
invariant-loop-rest l =
    find (is_flawed_pair l.flaw) (flat_map (λ own. beside own.stem l.kept) l.rest)
    ≡ find (is_flawed_pair l.flaw) (flat_map (λ own. beside own.stem l.kept) l.stems)

abbrev pub decreases-loop-rest : goal.decreases-loop-rest
decreases-loop-rest l = length l.rest
