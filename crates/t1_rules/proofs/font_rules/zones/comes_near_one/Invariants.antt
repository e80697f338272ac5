use Rattle.std.proofs.Common.{◌≡◌, length}
use Rattle.std.specs.List.{list_any}
use Rattle.t1_rules.specs.FontRules.Zones.{come_near, zones}
use Rattle.t1_rules.specs.Private.Edges.{zone_of}
use Rattle.t1_rules.proofs.font_rules.zones.comes_near_one.Given as goal

abbrev pub invariant-loop-rest : goal.invariant-loop-rest
invariant-loop-rest l =
    list_any (come_near l.distance (zone_of l.zone)) (zones l.rest) ≡ list_any (come_near l.distance (zone_of l.zone)) (zones l.others)

abbrev pub decreases-loop-rest : goal.decreases-loop-rest
decreases-loop-rest l = length l.rest
