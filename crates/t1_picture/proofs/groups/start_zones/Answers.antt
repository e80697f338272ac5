use Rattle.t1_picture.specs.Pictures.{zones_start}
use Rattle.t1_picture.proofs.groups.start_zones.Goals as goal

pub returns : goal.returns
unfolding zones_start
returns c = c.push.ensures
