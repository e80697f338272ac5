use Rattle.t1_reasons.proofs.RemedyLaws.{scale_does_for_all as does}
use Rattle.t1_reasons.proofs.laws.scale_does_for_all.Goals as goal

pub returns : goal.returns
returns c = does
