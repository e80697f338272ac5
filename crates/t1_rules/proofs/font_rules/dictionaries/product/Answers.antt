use Rattle.std.proofs.Common.{◌≡◌, rules}
use Rattle.t1_rules.proofs.Lemmas.Products.{pair_fits, pair_is}
use Rattle.t1_rules.proofs.font_rules.dictionaries.product.Goals as goal

pub overflow_mul-result : goal.overflow_mul-result
overflow_mul-result c =
    let one : c.from-first.result ≡ c.args.one = search rules in
    let other : c.from-second.result ≡ c.args.other = search rules in
    pair_fits c.from-first.result c.from-second.result c.args.one c.args.other one other c.ranges.one c.ranges.other

pub returns : goal.returns
returns c =
    let one : c.from-first.result ≡ c.args.one = search rules in
    let other : c.from-second.result ≡ c.args.other = search rules in
    pair_is c.from-first.result c.from-second.result c.args.one c.args.other one other c.ranges.one c.ranges.other
