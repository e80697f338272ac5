use Rattle.std.proofs.Common.{◌≡◌, length, map}
use Rattle.std.specs.List.{find}
use Rattle.t1_reasons.specs.declared.reason.Reason.TheVariants.{Stem}
use Rattle.t1_reasons.specs.StepReasons.{is_flawed}
use Rattle.t1_reasons.proofs.step_reasons.flawed_among.Given as goal

abbrev pub invariant-loop-rest : goal.invariant-loop-rest
invariant-loop-rest l = find (is_flawed l.flaw) (map (λ s. Stem s) l.rest) ≡ find (is_flawed l.flaw) (map (λ s. Stem s) l.stems)

abbrev pub decreases-loop-rest : goal.decreases-loop-rest
decreases-loop-rest l = length l.rest
