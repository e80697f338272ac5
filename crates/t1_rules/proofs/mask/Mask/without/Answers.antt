use Rattle.std.proofs.Common.{arith, ◌<◌, ◌^◌, rules, sym}
use Rattle.t1_rules.proofs.mask.Mask.without.Goals as goal
use Rattle.t1_rules.proofs.Lemmas.Mask.{cleared_bits}

pub returns-then-waived : goal.returns-then-waived
returns-then-waived c =
    let fits : c.args.self.bits < 2 ^ 128 = search rules in
    λ n. rw (c.if-waived.true, sym c.number.ensures.number) (cleared_bits c.args.self.bits c.number.result fits (omega arith) n)
