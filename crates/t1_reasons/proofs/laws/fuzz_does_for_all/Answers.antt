use Rattle.t1_reasons.proofs.RemedyLaws.{fuzz_does_for_all as does}
use Rattle.t1_reasons.proofs.laws.fuzz_does_for_all.Goals as goal

pub returns : goal.returns
returns c = does
