use Rattle.t1_names.proofs.NamedLaws.{one_list}
use Rattle.t1_names.proofs.laws.lists_are_one.Goals as goal

pub returns : goal.returns
returns c = one_list
