use Rattle.t1_picture.specs.CauseTexts.{causes_start}
use Rattle.t1_picture.proofs.cause_groups.start_causes.Goals as goal

pub returns : goal.returns
unfolding causes_start
returns c = c.push.ensures
