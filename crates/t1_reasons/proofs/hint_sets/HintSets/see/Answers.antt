use Rattle.std.proofs.Common.{◌∙◌, refl}
use Rattle.t1_char.specs.StepValues.{step_view}
use Rattle.t1_reasons.proofs.Hints.{one_step_more}
use Rattle.t1_reasons.proofs.hint_sets.HintSets.see.Goals as goal

pub returns : goal.returns
returns c = λ before st short.
    one_step_more c.args.self.now _ before (step_view c.args.step.now) st
    (c.keep_along.ensures ∙ rw c.lies_across.ensures refl) (c.keep_along-2.ensures ∙ rw c.stands_upright.ensures refl) refl
