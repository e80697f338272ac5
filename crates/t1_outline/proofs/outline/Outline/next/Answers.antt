use Rattle.std.proofs.Common.{◌≡◌, ◌≤◌, ◌++◌, ◌∷◌, [], length, take, ap, sym, subst, ◌∙◌, arith}
use Rattle.t1_char.specs.Steps.{NumberedStep, StepView}
use Rattle.t1_char.specs.StepValues.{step_view}
use Rattle.t1_outline.specs.Outlines.{drawn}
use Rattle.t1_outline.specs.Private.Standing.{PenStandsFor}
use Rattle.t1_outline.specs.Private.Outlining.{steps_in}
use Rattle.t1_outline.proofs.Outlining.{IsOver, few_seen, next_drawn, none_behind, none_left, outlining_stays, over, told}
use Rattle.t1_outline.proofs.outline.Outline.next.Goals as goal

pub invariant_of-self-in_default-go_on : goal.invariant_of-self-in_default-go_on
invariant_of-self-in_default-go_on c =
    let old = c.loop-segment.self-inside.machine in
    let is : IsOver old c.go_on.new.self = over old c.go_on.new.self c.go_on.result
    (record { font_is = c.go_on.ensures.font; glyph_is = c.go_on.ensures.glyph; edition_is = c.go_on.ensures.edition })
    c.in_default-go_on.not-Step c.go_on.ensures.asked in
    outlining_stays old c.go_on.new.self c.loop-segment.self-inside.pen is c.loop-segment.invariant.seen

pub returns-in_default-go_on : goal.returns-in_default-go_on
returns-in_default-go_on c =
    let old = c.loop-segment.self-inside.machine in
    let segments = c.loop-segment.self-inside.drawn.items in
    let given = c.loop-segment.self-inside.given in
    let is : IsOver old c.go_on.new.self = over old c.go_on.new.self c.go_on.result
    (record { font_is = c.go_on.ensures.font; glyph_is = c.go_on.ensures.glyph; edition_is = c.go_on.ensures.edition })
    c.in_default-go_on.not-Step c.go_on.ensures.asked in
    let all : length segments ≤ given = omega (arith, c.in_default.ensures.lookup.3, ap length c.as_slice.ensures.value) in
    (sym c.loop-segment.invariant.left ∙ none_left old c.go_on.new.self segments given is all, none_behind old c.go_on.new.self segments given is all)

pub loop-segment-preserved : goal.loop-segment-preserved
loop-segment-preserved c =
    let old = c.loop-segment.self-inside.machine in
    let segments = c.loop-segment.self-inside.drawn.items in
    let given = c.loop-segment.self-inside.given in
    let before = take old.counted (steps_in old) in
    let is = told old c.go_on.new.self
    (record { font_is = c.go_on.ensures.font; glyph_is = c.go_on.ensures.glyph; edition_is = c.go_on.ensures.edition })
    c.in-Step.ensures.asked in
    let all : length segments ≤ given = omega (arith, c.in_default.ensures.lookup.3, ap length c.as_slice.ensures.value) in
    let step : step_view c.current.result.now ≡ c.go_on.new.self.step.step = ap (λ (s : NumberedStep). s.step) c.current.ensures in
    let few = few_seen old in
    record {
      seen = rw (is.seen, is.same.edition_is)
          (subst (λ (s : StepView). PenStandsFor old.edition c.draw.new.self (before ++ s ∷ [])) step
          (c.draw.ensures.stands old.edition before c.loop-segment.invariant.seen few));
      left = next_drawn old c.go_on.new.self segments c.draw.result.segments.items given is all
          (c.draw.ensures.drawn old.edition before c.loop-segment.invariant.seen few ∙ ap (drawn before) step)
          ∙ c.loop-segment.invariant.left;
    }
