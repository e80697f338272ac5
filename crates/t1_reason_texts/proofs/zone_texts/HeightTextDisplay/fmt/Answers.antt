use Rattle.std.proofs.Common.{◌≡◌, rules}
use Rattle.t1_reason_texts.specs.Decimals.{difference_of, product_of, value_of}
use Rattle.t1_reason_texts.specs.ZoneTexts.{height_text}
use Rattle.t1_reason_texts.proofs.zone_texts.HeightTextDisplay.fmt.Goals as goal

pub returns-clause-writes : goal.returns-clause-writes
unfolding height_text
returns-clause-writes g c =
    let height : c.exact_difference-height.result ≡ difference_of c.args.self.now.upper c.args.self.now.lower = search rules in
    let scale : c.value-scale.result ≡ value_of c.args.self.now.scale = search rules in
    let times : c.exact_product-product.result ≡ product_of c.args.self.now.upper c.args.self.now.lower c.args.self.now.scale = search rules in
    rw (height, scale, times) at c.write.ensures.writes
