use Rattle.std.proofs.Common.{◌≡◌, ◌-ℤ◌, rules}
use Rattle.t1_rules.proofs.Lemmas.Products.{product_is}
use Rattle.t1_reason_texts.proofs.decimals.product.Goals as goal

pub returns : goal.returns
returns c =
    let far : c.difference.result ≡ c.args.above -ℤ c.args.below = search rules in
    let same : c.from.result ≡ c.args.scale = search rules in
    product_is c.difference.result c.from.result c.args.above c.args.below c.args.scale far same c.ranges.above c.ranges.below c.ranges.scale
