use Rattle.std.proofs.Common.{arith}
use Rattle.std.proofs.lemmas.Grind.{common_steps}
use Rattle.t1_rules.proofs.step_rules.othersubrs.number_faults.Goals as goal

pub returns : goal.returns
returns c = grind (arith, common_steps)
