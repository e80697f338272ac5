use Rattle.std.proofs.Common.{◌≡◌, ◌-◌, ◌%◌, ◌==◌, ◌&&◌, Some, length, nat_lt, rules, sym, ◌∙◌}
use Rattle.std.specs.List.{find}
use Rattle.t1_rules.specs.FontRules.Hints.{number_at}
use Rattle.t1_rules.specs.FontRules.Zones.{scale}
use Rattle.t1_reasons.specs.declared.reason.Reason.TheVariants.{Zone}
use Rattle.t1_reasons.specs.FontReasons.{reaches_one, zone_in}
use Rattle.t1_reasons.proofs.Finds.{found_where}
use Rattle.t1_reasons.proofs.font_reasons.zone_reason.Goals as goal

pub returns-then-is_too_high : goal.returns-then-is_too_high
returns-then-is_too_high c =
    let v = c.numbers_at-numbers.result.now in
    let place = c.args.index in
    let s = scale c.args.font.now in
    let found : find reaches_one (zone_in s v place) ≡ Some (Zone (number_at v (place - 1)) (number_at v place) s) =
    found_where (place % 2 == 1 && nat_lt place (length v)) reaches_one (Zone (number_at v (place - 1)) (number_at v place) s)
    (sym c.is_too_high.ensures ∙ c.if-is_too_high.true) in
    search (rules, found)
