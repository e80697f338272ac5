use Rattle.t1_picture.specs.Pictures.{line_start}
use Rattle.t1_picture.proofs.labels.start_line.Goals as goal

pub returns : goal.returns
unfolding line_start
returns c = c.write.ensures.bytes
