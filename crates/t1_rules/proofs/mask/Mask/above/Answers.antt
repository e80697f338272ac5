use Rattle.std.proofs.Common.{◌<◌, ◌+◌, ◌^◌, arith, rules}
use Rattle.t1_rules.proofs.mask.Mask.above.Goals as goal
use Rattle.t1_rules.proofs.Lemmas.Mask.{none_from, found_above}

pub returns-then-after-eq0 : goal.returns-then-after-eq0
returns-then-after-eq0 c = λ n above last. none_from c.args.self.bits (c.args.floor + 1) c.if-after-eq0.true n (omega arith)

pub returns : goal.returns
returns c =
    let fits : c.args.self.bits < 2 ^ 128 = search rules in
    found_above c.args.self c.args.floor c.rule_of.result fits c.if-after-eq0.false c.rule_of.ensures.some c.rule_of.ensures.none
