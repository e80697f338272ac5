use Rattle.std.proofs.Common.{◌≡◌, length}
use Rattle.std.specs.List.{find}
use Rattle.t1_reasons.specs.FontReasons.{are_near, beside_zones, zones_in}
use Rattle.t1_reasons.proofs.font_reasons.near_among.Given as goal

abbrev pub invariant-loop-rest : goal.invariant-loop-rest
invariant-loop-rest l =
    find are_near (beside_zones l.distance l.own (zones_in l.rest)) ≡ find are_near (beside_zones l.distance l.own (zones_in l.others))

abbrev pub decreases-loop-rest : goal.decreases-loop-rest
decreases-loop-rest l = length l.rest
