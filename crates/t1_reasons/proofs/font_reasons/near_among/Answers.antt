use Rattle.std.proofs.Common.{◌≡◌, ◌∷◌, [], Some, None, get_or, pos, refl, rules}
use Rattle.std.specs.List.{find}
use Rattle.t1_rules.specs.declared.font_rules.zones.Edges.{Edges}
use Rattle.t1_reasons.specs.declared.reason.Reason.TheVariants.{Zones}
use Rattle.t1_reasons.specs.FontReasons.{are_near, beside_zones, zones_in}
use Rattle.t1_reasons.proofs.Finds.{found_after_two, found_at_first_two}
use Rattle.t1_reasons.proofs.font_reasons.near_among.Goals as goal

pub returns-in-Some : goal.returns-in-Some
returns-in-Some c =
    let d = c.args.distance in
    let other : Edges = record { lower = get_or c.loop-rest.rest.now 0 (pos 0); upper = get_or c.loop-rest.rest.now 1 (pos 0) } in
    let here : find are_near (Zones c.args.own other d ∷ []) ≡ Some c.in-Some.reason = search rules in
    let whole : find are_near (beside_zones d c.args.own (zones_in c.loop-rest.rest.now))
    ≡ find are_near (beside_zones d c.args.own (zones_in c.args.others.now)) = search rules in
    search (
      rules,
      found_at_first_two are_near (λ a b. Zones c.args.own (record { lower = a; upper = b }) d)
          (λ v. beside_zones d c.args.own (zones_in v)) (λ a b v. refl) c.loop-rest.rest.now (pos 0) c.in-Some.reason _
          c.in-len2-up.len_at_least here whole,
    )

pub loop-rest-preserved : goal.loop-rest-preserved
loop-rest-preserved c =
    let d = c.args.distance in
    let other : Edges = record { lower = get_or c.loop-rest.rest.now 0 (pos 0); upper = get_or c.loop-rest.rest.now 1 (pos 0) } in
    let here : find are_near (Zones c.args.own other d ∷ []) ≡ None = search rules in
    let whole : find are_near (beside_zones d c.args.own (zones_in c.loop-rest.rest.now))
    ≡ find are_near (beside_zones d c.args.own (zones_in c.args.others.now)) = search rules in
    search (
      rules,
      found_after_two are_near (λ a b. Zones c.args.own (record { lower = a; upper = b }) d)
          (λ v. beside_zones d c.args.own (zones_in v)) (λ a b v. refl) c.loop-rest.rest.now (pos 0) _
          c.in-len2-up.len_at_least here whole,
    )
