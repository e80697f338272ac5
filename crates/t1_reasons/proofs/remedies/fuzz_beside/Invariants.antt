use Rattle.std.proofs.Common.{◌≡◌, length}
use Rattle.t1_reasons.specs.FontReasons.{zones_in}
use Rattle.t1_reasons.specs.Remedies.{fuzz_from, gaps_beside}
use Rattle.t1_reasons.proofs.remedies.fuzz_beside.Given as goal

abbrev pub invariant-loop-rest : goal.invariant-loop-rest
invariant-loop-rest l = fuzz_from l.best (gaps_beside l.own (zones_in l.rest)) ≡ fuzz_from l.fn.bound (gaps_beside l.own (zones_in l.highs))

abbrev pub decreases-loop-rest : goal.decreases-loop-rest
decreases-loop-rest l = length l.rest
