use Rattle.std.proofs.Common.{◌≡◌, false, get_or, pos, rules, to_z, of_z}
use Rattle.std.specs.Int.{w128}
use Rattle.t1_rules.specs.FontRules.Zones.{come_near}
use Rattle.t1_rules.specs.Private.Edges.{zone_of}
use Rattle.t1_rules.proofs.Lemmas.Zones.{after_one}
use Rattle.t1_rules.proofs.font_rules.zones.comes_near_one.Goals as goal

pub loop-rest-preserved : goal.loop-rest-preserved
loop-rest-preserved c =
    let near = come_near (to_z w128 (of_z w128 c.args.distance)) (zone_of c.args.zone) in
    let apart : false ≡ near (record { lower = get_or c.loop-rest.rest.now 0 (pos 0); upper = get_or c.loop-rest.rest.now 1 (pos 0) }) = search rules in
    after_one near c.loop-rest.rest.now _ c.in-len2-up.len_at_least apart c.loop-rest.invariant
