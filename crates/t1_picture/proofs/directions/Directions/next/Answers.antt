use Rattle.std.proofs.Common.{◌<◌, List, length, subst, sym, ap, ◌∙◌}
use Rattle.t1_char.specs.Steps.{NumberedStep, StepView}
use Rattle.t1_outline.specs.Private.Outlining.{steps_in}
use Rattle.t1_picture.specs.Causes.{direction_of}
use Rattle.t1_picture.proofs.Runs.{direction_next, direction_past, same_steps_in}
use Rattle.t1_picture.proofs.directions.Directions.next.Goals as goal

pub invariant_of-self : goal.invariant_of-self
invariant_of-self c =
    c.direction_of-self-inside.ensures
    ∙ ap (λ (s : NumberedStep). direction_of s.step.token) c.step.ensures.value
    ∙ direction_next c.self.inside.run c.next.new.self c.in-Step.field-0 c.next.ensures.same c.in-Step.ensures.gives

pub invariant_of-self-in-Ended : goal.invariant_of-self-in-Ended
invariant_of-self-in-Ended c =
    direction_past (steps_in c.next.new.self) c.next.new.self.counted
    (subst (λ (ss : List StepView). length ss < c.next.new.self.counted) (sym (same_steps_in c.self.inside.run c.next.new.self c.next.ensures.same))
    c.in-Ended.ensures.gives.0.past)

pub invariant_of-self-in-Limit : goal.invariant_of-self-in-Limit
invariant_of-self-in-Limit c =
    direction_past (steps_in c.next.new.self) c.next.new.self.counted
    (subst (λ (ss : List StepView). length ss < c.next.new.self.counted) (sym (same_steps_in c.self.inside.run c.next.new.self c.next.ensures.same))
    c.in-Limit.ensures.gives.0.past)
