use Rattle.t1_rules.proofs.Lemmas.Overlaps.{overlap_where_shared}
use Rattle.t1_rules.proofs.laws.stems_overlap_where_they_share_a_place.Goals as goal

pub returns-clause-place : goal.returns-clause-place
returns-clause-place c = overlap_where_shared
