use Rattle.std.proofs.Common.{arith, sym}
use Rattle.t1_rules.proofs.mask.Mask.with.Goals as goal
use Rattle.t1_rules.proofs.Lemmas.Mask.{set_bits}

pub returns-then-broken : goal.returns-then-broken
returns-then-broken c = λ n. rw (c.if-broken.true, sym c.number.ensures.number) (set_bits c.args.self.bits c.number.result (omega arith) n)
