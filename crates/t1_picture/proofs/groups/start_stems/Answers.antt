use Rattle.t1_picture.specs.Pictures.{stems_start}
use Rattle.t1_picture.proofs.groups.start_stems.Goals as goal

pub returns : goal.returns
unfolding stems_start
returns c = c.push.ensures
