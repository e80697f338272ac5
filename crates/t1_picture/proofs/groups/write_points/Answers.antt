use Rattle.t1_picture.specs.Pictures.{points_part}
use Rattle.t1_picture.proofs.groups.write_points.Goals as goal

pub returns : goal.returns
unfolding points_part
returns c = c.write.ensures.bytes
