use Rattle.t1_rules.proofs.Lemmas.ArgumentLaws.{numbers_overflow_at_24, others_have_no_arguments}
use Rattle.t1_rules.proofs.laws.numbers_are_counted.Goals as goal

pub returns-clause-others : goal.returns-clause-others
returns-clause-others c = others_have_no_arguments

pub returns-clause-overflow : goal.returns-clause-overflow
returns-clause-overflow c = numbers_overflow_at_24
