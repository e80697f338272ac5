use Rattle.std.proofs.Common.{◌≡◌, length}
use Rattle.t1_rules.specs.StepRules.Stems.{overlap_by, two_overlap}
use Rattle.t1_rules.proofs.step_rules.stems.two_overlap.Given as goal

abbrev pub invariant-loop-rest : goal.invariant-loop-rest
invariant-loop-rest l = two_overlap (overlap_by l.edition) l.rest ≡ two_overlap (overlap_by l.edition) l.fn.stems

abbrev pub decreases-loop-rest : goal.decreases-loop-rest
decreases-loop-rest l = length l.rest
