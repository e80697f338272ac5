use Rattle.std.proofs.Common.{◌≡◌, length}
use Rattle.t1_reasons.specs.FontReasons.{zones_in}
use Rattle.t1_reasons.specs.Remedies.{scale_from}
use Rattle.t1_reasons.proofs.remedies.scale_from.Given as goal

abbrev pub invariant-loop-rest : goal.invariant-loop-rest
invariant-loop-rest l = scale_from l.best (zones_in l.rest) ≡ scale_from l.fn.bound (zones_in l.numbers)

abbrev pub decreases-loop-rest : goal.decreases-loop-rest
decreases-loop-rest l = length l.rest
