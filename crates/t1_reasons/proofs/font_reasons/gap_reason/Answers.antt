use Rattle.std.proofs.Common.{◌≡◌, ◌-◌, ◌&&◌, Some, nat_lt, rules, sym, ◌∙◌}
use Rattle.std.specs.List.{find}
use Rattle.t1_rules.specs.FontRules.Hints.{number_at}
use Rattle.t1_rules.specs.FontRules.Zones.{begins_zone, distance}
use Rattle.t1_reasons.specs.declared.reason.Reason.TheVariants.{Gap}
use Rattle.t1_reasons.specs.FontReasons.{gap_in, is_near}
use Rattle.t1_reasons.proofs.Finds.{found_where}
use Rattle.t1_reasons.proofs.font_reasons.gap_reason.Goals as goal

pub returns-then-is_too_near : goal.returns-then-is_too_near
returns-then-is_too_near c =
    let v = c.numbers_at-numbers.result.now in
    let place = c.args.index in
    let d = distance c.args.font.now in
    let found : find is_near (gap_in d v place) ≡ Some (Gap (number_at v (place - 1)) (number_at v place) d) =
    found_where (nat_lt 0 place && begins_zone v place) is_near (Gap (number_at v (place - 1)) (number_at v place) d)
    (sym c.is_too_near.ensures ∙ c.if-is_too_near.true) in
    search (rules, found)
