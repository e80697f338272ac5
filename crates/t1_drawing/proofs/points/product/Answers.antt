use Rattle.std.proofs.Common.{◌≡◌, rules}
use Rattle.t1_drawing.proofs.Bounding.{product_of_ways}
use Rattle.t1_drawing.proofs.points.product.Goals as goal
use Rattle.t1_rules.proofs.Lemmas.Products.{pair_is}

pub returns-clause-within : goal.returns-clause-within
returns-clause-within c =
    let one : c.from-first.result ≡ c.args.one = search rules in
    let other : c.from-second.result ≡ c.args.other = search rules in
    let value = pair_is c.from-first.result c.from-second.result c.args.one c.args.other one other c.ranges.one c.ranges.other in
    rw value (product_of_ways c.args.one c.args.other c.requires.one c.requires.other)
