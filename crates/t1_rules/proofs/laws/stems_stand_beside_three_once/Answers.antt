use Rattle.t1_rules.proofs.Lemmas.LaterLaws.{one_stem_stands_beside}
use Rattle.t1_rules.proofs.laws.stems_stand_beside_three_once.Goals as goal

pub returns-clause-once : goal.returns-clause-once
returns-clause-once c = one_stem_stands_beside
