use Rattle.t1_reasons.proofs.LastSteps.{told_steps_are_the_last as last}
use Rattle.t1_reasons.proofs.laws.told_steps_are_the_last.Goals as goal

pub returns : goal.returns
returns c = last
