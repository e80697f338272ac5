use Rattle.t1_picture.specs.Pictures.{lines_start}
use Rattle.t1_picture.proofs.groups.start_lines.Goals as goal

pub returns : goal.returns
unfolding lines_start
returns c = c.push.ensures
