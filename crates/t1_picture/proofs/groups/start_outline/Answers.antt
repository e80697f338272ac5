use Rattle.t1_picture.specs.Pictures.{outline_start}
use Rattle.t1_picture.proofs.groups.start_outline.Goals as goal

pub returns : goal.returns
unfolding outline_start
returns c = c.push.ensures
