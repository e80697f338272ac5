use Rattle.std.proofs.Common.{◌≡◌, length}
use Rattle.std.specs.List.{find}
use Rattle.t1_reasons.specs.DrawingReasons.{breaks_rule}
use Rattle.t1_reasons.proofs.drawing_reasons.first_such.Given as goal

abbrev pub invariant-loop-rest : goal.invariant-loop-rest
invariant-loop-rest l = find (breaks_rule l.rule) l.rest ≡ find (breaks_rule l.rule) l.segments

abbrev pub decreases-loop-rest : goal.decreases-loop-rest
decreases-loop-rest l = length l.rest
