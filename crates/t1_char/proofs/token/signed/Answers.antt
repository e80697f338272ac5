use Rattle.std.proofs.Common.{arith}
use Rattle.std.proofs.lemmas.Grind.{common_steps}
use Rattle.t1_char.proofs.token.signed.Goals as goal

pub overflow_cast-result : goal.overflow_cast-result
overflow_cast-result c = grind (arith, common_steps)

pub overflow_sub-result : goal.overflow_sub-result
overflow_sub-result c = grind (arith, common_steps)

pub overflow_cast-result-else-bits : goal.overflow_cast-result-else-bits
overflow_cast-result-else-bits c = grind (arith, common_steps)

pub overflow_sub-result-else-bits : goal.overflow_sub-result-else-bits
overflow_sub-result-else-bits c = grind (arith, common_steps)

pub overflow_sub-result-else-bits-2 : goal.overflow_sub-result-else-bits-2
overflow_sub-result-else-bits-2 c = grind (arith, common_steps)

pub returns-then-bits : goal.returns-then-bits
returns-then-bits c = grind (arith, common_steps)

pub returns-else-bits : goal.returns-else-bits
returns-else-bits c = grind (arith, common_steps)
