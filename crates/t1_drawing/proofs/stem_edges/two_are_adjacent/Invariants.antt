use Rattle.std.proofs.Common.{◌≡◌, length}
use Rattle.t1_drawing.specs.StemEdges.{are_adjacent}
use Rattle.t1_rules.specs.StepRules.Stems.{two_overlap}
use Rattle.t1_drawing.proofs.stem_edges.two_are_adjacent.Given as goal

abbrev pub invariant-loop-rest : goal.invariant-loop-rest
invariant-loop-rest l = two_overlap are_adjacent l.rest ≡ two_overlap are_adjacent l.fn.stems

abbrev pub decreases-loop-rest : goal.decreases-loop-rest
decreases-loop-rest l = length l.rest
