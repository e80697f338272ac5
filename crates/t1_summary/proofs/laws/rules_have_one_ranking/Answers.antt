use Rattle.t1_summary.proofs.Orders.{rankings_are_one, rankings_stand}
use Rattle.t1_summary.proofs.laws.rules_have_one_ranking.Goals as goal

pub returns-clause-stands : goal.returns-clause-stands
returns-clause-stands c = rankings_stand

pub returns-clause-one : goal.returns-clause-one
returns-clause-one c = rankings_are_one
