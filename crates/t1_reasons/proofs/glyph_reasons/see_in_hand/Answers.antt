use Rattle.std.proofs.Common.{◌≡◌, ap, sym, ◌∙◌, ◌++◌, ◌∷◌, [], subst, take, List, ◌-◌, ◌<◌, arith}
use Rattle.t1_char.specs.Steps.{NumberedStep, StepView}
use Rattle.t1_char.specs.StepValues.{step_view}
use Rattle.t1_reasons.specs.GlyphReasons.{steps_in}
use Rattle.t1_reasons.specs.Standing.{StepsStandFor}
use Rattle.t1_reasons.proofs.Walking.{few_steps, seen_on}
use Rattle.t1_reasons.proofs.glyph_reasons.see_in_hand.Goals as goal

pub returns-then-counted-gt0 : goal.returns-then-counted-gt0
returns-then-counted-gt0 c =
    let m = c.args.machine.now in
    let before = take (m.counted - 1) (steps_in m) in
    let some : 0 < m.counted = omega arith in
    let step : step_view c.current.result.now ≡ m.step.step = ap (λ (s : NumberedStep). s.step) c.current.ensures in
    let more = seen_on m some c.requires.there c.requires.in_hand in
    subst (λ (steps : List StepView). StepsStandFor m.edition c.see.new.self steps) (ap (λ s. before ++ s ∷ []) step ∙ sym more)
    (c.see.ensures m.edition before c.requires.stands (few_steps m (m.counted - 1)))
