use Rattle.std.proofs.Common.{arith}
use Rattle.t1_report.proofs.Units.{few_passed, few_turns_in_all}
use Rattle.t1_report.proofs.walk.search.Search.turns.Goals as goal

pub overflow_add-result : goal.overflow_add-result
overflow_add-result c = omega (arith, (few_passed c.args.self.now c.requires).0, c.turns_in_part.ensures.most)

pub returns-clause-few : goal.returns-clause-few
returns-clause-few c = omega (arith, few_turns_in_all c.args.self.now c.requires, c.turns_in_part.ensures.turns)

pub overflow_add-result-2 : goal.overflow_add-result-2
overflow_add-result-2 c = let few = few_passed c.args.self.now c.requires in omega (arith, few.0, few.1, c.turns_in_part.ensures.most)
