use Rattle.t1_reasons.proofs.DrawingLaws.{drawing_reasons_are_against}
use Rattle.t1_reasons.proofs.LeftStems.{left_stems_are_set}
use Rattle.t1_reasons.proofs.NearestEnds.{nearest_ends_are_nearest}
use Rattle.t1_reasons.proofs.laws.drawing_reasons_are_against_their_rules.Goals as goal

pub returns-clause-against : goal.returns-clause-against
returns-clause-against c = drawing_reasons_are_against

pub returns-clause-set : goal.returns-clause-set
returns-clause-set c = left_stems_are_set

pub returns-clause-nearest : goal.returns-clause-nearest
returns-clause-nearest c = nearest_ends_are_nearest
