use Rattle.t1_drawing.proofs.StemLaws.{untouched_stems_lie_off}
use Rattle.t1_drawing.proofs.laws.untouched_stems_lie_off.Goals as goal

pub returns : goal.returns
returns c = untouched_stems_lie_off
