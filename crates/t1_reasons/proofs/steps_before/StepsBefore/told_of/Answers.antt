use Rattle.std.proofs.Common.{ap, ◌∙◌}
use Rattle.t1_reasons.specs.DrawingReasons.{or_nothing}
use Rattle.t1_reasons.proofs.steps_before.StepsBefore.told_of.Goals as goal

pub returns-in-H09 : goal.returns-in-H09
returns-in-H09 c = λ edition before st short. rw c.in-H09.is (c.or_nothing.ensures ∙ ap or_nothing (c.stem_pair.ensures edition before st short))
