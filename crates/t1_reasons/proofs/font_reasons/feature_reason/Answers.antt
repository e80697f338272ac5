use Rattle.std.proofs.Common.{◌≡◌, ◌==◌, not, true, Some, rules, sym, ◌∙◌}
use Rattle.std.specs.List.{find}
use Rattle.t1_rules.specs.FontRules.Values.{is_sixteen_twice}
use Rattle.t1_rules.specs.Keys.{value_at}
use Rattle.t1_reasons.specs.FontReasons.{features_at, features_in, is_unusual_feature}
use Rattle.t1_reasons.proofs.Finds.{found_where}
use Rattle.t1_reasons.proofs.FontLaws.{feature_agrees}
use Rattle.t1_reasons.proofs.font_reasons.feature_reason.Goals as goal

pub returns-then-not-is_sixteen_twice : goal.returns-then-not-is_sixteen_twice
returns-then-not-is_sixteen_twice c =
    let v = value_at c.args.font.now c.args.key in
    let first : (c.args.index == 0) ≡ true = search rules in
    let other : not (is_sixteen_twice v) ≡ true = search rules in
    let unusual : is_unusual_feature (features_in v) ≡ true = sym (feature_agrees v) ∙ other in
    let found : find is_unusual_feature (features_at c.args.font.now c.args.key c.args.index) ≡ Some (features_in v) =
    found_where (c.args.index == 0) is_unusual_feature (features_in v) (rw first unusual) in
    search (rules, found)
