use Rattle.t1_picture.specs.Arrows.{arrows_start}
use Rattle.t1_picture.proofs.arrows.start_arrows.Goals as goal

pub returns : goal.returns
unfolding arrows_start
returns c = c.push.ensures
