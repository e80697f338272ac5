use Rattle.t1_picture.specs.Pictures.{svg_start}
use Rattle.t1_picture.proofs.head.start_svg.Goals as goal

pub returns : goal.returns
unfolding svg_start
returns c = c.push.ensures
