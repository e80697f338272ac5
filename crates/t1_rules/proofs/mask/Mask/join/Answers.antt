use Rattle.t1_rules.proofs.mask.Mask.join.Goals as goal
use Rattle.t1_rules.proofs.Lemmas.Mask.{joined_bits}

pub returns : goal.returns
returns c = λ n. joined_bits c.args.self.bits c.args.other.bits n
