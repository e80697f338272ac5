use Rattle.std.proofs.Common.{◌≡◌, length}
use Rattle.t1_reasons.specs.FontReasons.{nearest}
use Rattle.t1_reasons.proofs.font_reasons.nearest.Given as goal

abbrev pub invariant-loop-rest : goal.invariant-loop-rest
invariant-loop-rest l = nearest l.width l.best l.rest ≡ nearest l.width l.snap l.snaps

abbrev pub decreases-loop-rest : goal.decreases-loop-rest
decreases-loop-rest l = length l.rest
