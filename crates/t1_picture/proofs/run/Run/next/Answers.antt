use Rattle.std.proofs.Common.{◌≡◌, ◌++◌, ◌∷◌, [], take, ap, subst, ◌∙◌}
use Rattle.t1_char.specs.declared.machine.Answer.TheVariants.{Ended, Limit, Step}
use Rattle.t1_char.specs.Steps.{NumberedStep, StepView}
use Rattle.t1_char.specs.StepValues.{step_view}
use Rattle.t1_char.specs.Turns.{MachineView}
use Rattle.t1_outline.specs.Outlines.{drawn}
use Rattle.t1_outline.specs.Private.Standing.{PenStandsFor}
use Rattle.t1_outline.specs.Private.Outlining.{steps_in}
use Rattle.t1_outline.proofs.Outlining.{few_seen, outlining_stays, over, told}
use Rattle.t1_picture.specs.declared.run.Next.TheVariants as next
use Rattle.t1_picture.specs.Private.Runs.{GivesNext, IsDrawnNext}
use Rattle.t1_picture.proofs.Runs.{all_seen, ends_within, goes_past, in_hand_next, in_hand_over}
use Rattle.t1_picture.proofs.run.Run.next.Goals as goal
use Rattle.t1_rules.specs.StepRules.Paths.{leaves_open}

no_end : Ended ≡ Step → ⊥
no_end is = cc

no_limit : Limit ≡ Step → ⊥
no_limit is = cc

pub invariant_of-self : goal.invariant_of-self
invariant_of-self c =
    let old = c.self.inside.machine in
    let before = take old.counted (steps_in old) in
    let is = told old c.go_on.new.self
    (record { font_is = c.go_on.ensures.font; glyph_is = c.go_on.ensures.glyph; edition_is = c.go_on.ensures.edition })
    c.in-Step.ensures.asked in
    let step : step_view c.current.result.now ≡ c.go_on.new.self.step.step = ap (λ (s : NumberedStep). s.step) c.current.ensures in (
      rw (is.seen, is.same.edition_is)
          (subst (λ (s : StepView). PenStandsFor old.edition c.draw.new.self (before ++ s ∷ [])) step
          (c.draw.ensures.stands old.edition before c.self.invariant.0 (few_seen old))),
      in_hand_next old c.go_on.new.self is,
    )

pub returns-in-Step-clause-gives : goal.returns-in-Step-clause-gives
returns-in-Step-clause-gives c =
    let old = c.self.inside.machine in
    let before = take old.counted (steps_in old) in
    let is = told old c.go_on.new.self
    (record { font_is = c.go_on.ensures.font; glyph_is = c.go_on.ensures.glyph; edition_is = c.go_on.ensures.edition })
    c.in-Step.ensures.asked in
    let step : step_view c.current.result.now ≡ c.go_on.new.self.step.step = ap (λ (s : NumberedStep). s.step) c.current.ensures in
    subst (λ (m : MachineView). IsDrawnNext m c.go_on.new.self c.draw.result) c.self.view_is
    (record {
      seen = is.seen;
      ahead = is.ahead;
      within = is.within;
      counted = is.counted;
      number = is.number;
      segments = c.draw.ensures.drawn old.edition before c.self.invariant.0 (few_seen old) ∙ ap (drawn before) step;
      leaves_open = c.draw.ensures.leaves_open old.edition before c.self.invariant.0 (few_seen old) ∙ ap (leaves_open before) step;
    })

pub invariant_of-self-in-Ended : goal.invariant_of-self-in-Ended
invariant_of-self-in-Ended c =
    let old = c.self.inside.machine in
    let is = over old c.go_on.new.self Ended
    (record { font_is = c.go_on.ensures.font; glyph_is = c.go_on.ensures.glyph; edition_is = c.go_on.ensures.edition })
    no_end c.in-Ended.ensures.asked in
    (outlining_stays old c.go_on.new.self c.self.inside.pen is c.self.invariant.0, in_hand_over old c.go_on.new.self _ is c.in-Ended.ensures.asked)

pub returns-in-Ended-clause-gives : goal.returns-in-Ended-clause-gives
returns-in-Ended-clause-gives c =
    let old = c.self.inside.machine in
    let is = over old c.go_on.new.self Ended
    (record { font_is = c.go_on.ensures.font; glyph_is = c.go_on.ensures.glyph; edition_is = c.go_on.ensures.edition })
    no_end c.in-Ended.ensures.asked in
    subst (λ (m : MachineView). GivesNext m c.go_on.new.self next.Ended) c.self.view_is
    (all_seen old c.go_on.new.self _ is c.in-Ended.ensures.asked, ends_within old c.go_on.new.self is c.in-Ended.ensures.asked)

pub invariant_of-self-in-Limit : goal.invariant_of-self-in-Limit
invariant_of-self-in-Limit c =
    let old = c.self.inside.machine in
    let is = over old c.go_on.new.self Limit
    (record { font_is = c.go_on.ensures.font; glyph_is = c.go_on.ensures.glyph; edition_is = c.go_on.ensures.edition })
    no_limit c.in-Limit.ensures.asked in
    (outlining_stays old c.go_on.new.self c.self.inside.pen is c.self.invariant.0, in_hand_over old c.go_on.new.self _ is c.in-Limit.ensures.asked)

pub returns-in-Limit-clause-gives : goal.returns-in-Limit-clause-gives
returns-in-Limit-clause-gives c =
    let old = c.self.inside.machine in
    let is = over old c.go_on.new.self Limit
    (record { font_is = c.go_on.ensures.font; glyph_is = c.go_on.ensures.glyph; edition_is = c.go_on.ensures.edition })
    no_limit c.in-Limit.ensures.asked in
    subst (λ (m : MachineView). GivesNext m c.go_on.new.self next.Limit) c.self.view_is
    (all_seen old c.go_on.new.self _ is c.in-Limit.ensures.asked, goes_past old c.go_on.new.self _ is c.in-Limit.ensures.asked)
