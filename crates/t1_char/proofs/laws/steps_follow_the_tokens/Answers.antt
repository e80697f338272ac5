use Rattle.t1_char.proofs.Bounds.{steps_are_bounded}
use Rattle.t1_char.proofs.laws.steps_follow_the_tokens.Goals as goal

pub returns-clause-bounds : goal.returns-clause-bounds
returns-clause-bounds c = steps_are_bounded
