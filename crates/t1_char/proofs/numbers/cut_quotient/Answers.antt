use Rattle.std.proofs.Common.{arith}
use Rattle.std.proofs.lemmas.Grind.{common_steps}
use Rattle.t1_char.proofs.numbers.cut_quotient.Goals as goal

pub returns : goal.returns
returns c = grind (arith, common_steps)

pub from-requires : goal.from-requires
from-requires c = grind (arith, common_steps)

pub from-requires-2 : goal.from-requires-2
from-requires-2 c = grind (arith, common_steps)

pub overflow_mul-result : goal.overflow_mul-result
overflow_mul-result c = grind (arith, common_steps)

pub from-requires-3 : goal.from-requires-3
from-requires-3 c = grind (arith, common_steps)

pub nonzero_div-result : goal.nonzero_div-result
nonzero_div-result c = grind (arith, common_steps)
