use Rattle.t1_picture.specs.Pictures.{handles_start}
use Rattle.t1_picture.proofs.groups.start_handles.Goals as goal

pub returns : goal.returns
unfolding handles_start
returns c = c.push.ensures
