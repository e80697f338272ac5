use Rattle.std.proofs.Common.{arith}
use Rattle.std.proofs.lemmas.Grind.{common_steps}
use Rattle.t1_rules.proofs.step_rules.flex.at.Goals as goal

pub returns-clause-near : goal.returns-clause-near
returns-clause-near c = grind (arith, common_steps)
