use Rattle.t1_rules.proofs.Lemmas.Behind.{pops_alone_pop_nothing, pops_of_nothing_change_nothing}
use Rattle.t1_rules.proofs.laws.pops_of_nothing_change_nothing.Goals as goal

pub returns-clause-nothing : goal.returns-clause-nothing
returns-clause-nothing c = pops_of_nothing_change_nothing

pub returns-clause-others : goal.returns-clause-others
returns-clause-others c = pops_alone_pop_nothing
