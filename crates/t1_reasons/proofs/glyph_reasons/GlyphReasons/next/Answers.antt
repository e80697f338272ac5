use Rattle.std.proofs.Common.{◌≡◌, ℕ, ◌+◌, ◌≤◌, ◌++◌, ◌∷◌, [], true, ap, arith, length, sym, subst, take, ◌∙◌}
use Rattle.t1_char.specs.declared.machine.Answer.{Answer}
use Rattle.t1_char.specs.declared.machine.Answer.TheVariants.{Step}
use Rattle.t1_char.specs.declared.machine.Numbers.TheVariants.{Returned}
use Rattle.t1_char.specs.AnswerViews.{answer_view}
use Rattle.t1_char.specs.Asking.{IsAsked}
use Rattle.t1_char.specs.Steps.{NumberedStep, StepView}
use Rattle.t1_char.specs.StepValues.{step_view}
use Rattle.t1_char.specs.Turns.{MachineView, stepped}
use Rattle.t1_char.specs.Editions.{has_latest_rules}
use Rattle.t1_drawing.specs.DrawingRules.{box_of, breaks_own}
use Rattle.t1_drawing.specs.Drawings.{traced}
use Rattle.t1_drawing.specs.Private.Standing.{LatestDrawingStandsFor}
use Rattle.t1_drawing.specs.Strokes.{segments_of}
use Rattle.t1_outline.specs.Outlines.{drawn}
use Rattle.t1_rules.specs.Private.Standing.{WatchesStandFor}
use Rattle.t1_rules.specs.Mask.{has}
use Rattle.t1_reasons.specs.GlyphReasons.{IsOfSameGlyph, IsWatched, is_step, steps_in}
use Rattle.t1_reasons.proofs.Walking.{a_step, begun_on, few_steps, no_step, over, over_watched, step_watched, within_steps}
use Rattle.t1_reasons.proofs.glyph_reasons.GlyphReasons.next.Goals as goal

pub trace_where-traced-requires : goal.trace_where-traced-requires
trace_where-traced-requires c =
    let old = c.self.inside.machine in (
      old.edition,
      (
        box_of old.font,
        (
          take old.counted (steps_in old),
          (
            record {
              where_drawn = c.has_latest_rules-draws.ensures ∙ ap has_latest_rules (sym c.self.invariant.1.edition_is);
              watched = c.self.invariant.0.watches;
              drawn = c.self.invariant.0.drawn;
            },
            few_steps old old.counted,
          ),
        ),
      ),
    )

pub invariant_of-self : goal.invariant_of-self
invariant_of-self c =
    let old = c.self.inside.machine in
    let new = c.go_on-self-inside.new.self in
    let answer = c.go_on-self-inside.result in
    let same : IsOfSameGlyph old new =
    record { font = c.go_on-self-inside.ensures.font; glyph = c.go_on-self-inside.ensures.glyph; edition = c.go_on-self-inside.ensures.edition } in
    let is : answer ≡ Step = a_step answer (sym c.is_step-2.ensures ∙ c.if-is_step.true) in
    let asked : IsAsked Returned old new (stepped new.step) =
    subst (λ (a : Answer). IsAsked Returned old new (answer_view a new.step)) is c.go_on-self-inside.ensures.asked in
    let step : step_view c.current.result.now ≡ new.step.step = ap (λ (s : NumberedStep). s.step) c.current.ensures in
    let watched : IsWatched new c.see_in_hand.new.before c.trace_where-traced.new.watches c.trace_where-traced.new.self c.trace_where-traced.result.broken c.trace_where-traced.result.segments.items Step =
    step_watched old new c.see_in_hand.new.before c.self.inside.watches c.trace_where-traced.new.watches c.self.inside.drawing c.trace_where-traced.new.self
    c.has_latest_rules-draws.result c.trace_where-traced.result.broken c.trace_where-traced.result.segments.items same asked c.see_in_hand.ensures (record {
      where_drawn = c.has_latest_rules-draws.ensures ∙ ap has_latest_rules (sym c.self.invariant.1.edition_is);
      watched = c.self.invariant.0.watches;
      drawn = c.self.invariant.0.drawn;
    })
    (λ edition before stands few. subst (λ (s : StepView). WatchesStandFor edition c.trace_where-traced.new.watches (before ++ s ∷ [])) step
    (c.trace_where-traced.ensures.watches edition before stands few))
    (λ edition box before both short. subst (λ (s : StepView). LatestDrawingStandsFor edition box c.trace_where-traced.new.self (before ++ s ∷ [])) step
    (c.trace_where-traced.ensures.stands edition box before both short))
    (λ edition box before both short. subst (λ (s : StepView). (n : ℕ) → has c.trace_where-traced.result.broken n ≡ breaks_own edition box n before s) step
    (c.trace_where-traced.ensures.answer edition box before both short))
    (λ edition box before both short latest. subst (λ (s : StepView). c.trace_where-traced.result.segments.items ≡ traced box (segments_of before) (drawn before s)) step
    (c.trace_where-traced.ensures.traced edition box before both short latest)) in (
      subst (λ (a : Answer). IsWatched new c.see_in_hand.new.before c.trace_where-traced.new.watches c.trace_where-traced.new.self c.trace_where-traced.result.broken c.trace_where-traced.result.segments.items a) (sym is) watched,
      begun_on old new _ _ _ same c.self.invariant.1,
    )

pub invariant_of-self-else-is_step : goal.invariant_of-self-else-is_step
invariant_of-self-else-is_step c =
    let old = c.self.inside.machine in
    let new = c.go_on-self-inside.new.self in
    let answer = c.go_on-self-inside.result in
    let same : IsOfSameGlyph old new =
    record { font = c.go_on-self-inside.ensures.font; glyph = c.go_on-self-inside.ensures.glyph; edition = c.go_on-self-inside.ensures.edition } in
    let began : is_step c.self.inside.answer ≡ true = sym c.is_step.ensures ∙ c.if-not-is_step.false in
    let few : old.counted ≤ length (steps_in old) = within_steps old c.self.inside.answer began c.self.invariant.0.answer in
    let other : answer ≡ Step → ⊥ = no_step answer (sym c.is_step-2.ensures ∙ c.if-is_step.false) in (
      over_watched old new c.see_in_hand.new.before c.self.inside.watches c.self.inside.drawing c.self.inside.broken c.self.inside.segments.items answer same few other c.go_on-self-inside.ensures.asked
          c.see_in_hand.ensures c.self.invariant.0.watches c.self.invariant.0.drawn,
      begun_on old new _ _ _ same c.self.invariant.1,
    )

pub returns-else-is_step-clause-over : goal.returns-else-is_step-clause-over
returns-else-is_step-clause-over c = λ same.
    let old = c.self.inside.machine in
    let new = c.go_on-self-inside.new.self in
    let answer = c.go_on-self-inside.result in
    let began : is_step c.self.inside.answer ≡ true = sym c.is_step.ensures ∙ c.if-not-is_step.false in
    let few : old.counted ≤ length (steps_in old) = within_steps old c.self.inside.answer began c.self.invariant.0.answer in
    let other : answer ≡ Step → ⊥ = no_step answer (sym c.is_step-2.ensures ∙ c.if-is_step.false) in
    let is = over old new answer few other c.go_on-self-inside.ensures.asked in
    subst (λ (m : MachineView). new.counted ≡ length (steps_in m) + 1) c.self.view_is is.counted

pub returns-else-is_step-clause-all : goal.returns-else-is_step-clause-all
returns-else-is_step-clause-all c = λ same.
    let old = c.self.inside.machine in
    let new = c.go_on-self-inside.new.self in
    let answer = c.go_on-self-inside.result in
    let began : is_step c.self.inside.answer ≡ true = sym c.is_step.ensures ∙ c.if-not-is_step.false in
    let few : old.counted ≤ length (steps_in old) = within_steps old c.self.inside.answer began c.self.invariant.0.answer in
    let other : answer ≡ Step → ⊥ = no_step answer (sym c.is_step-2.ensures ∙ c.if-is_step.false) in
    let is = over old new answer few other c.go_on-self-inside.ensures.asked in
    let all : length (steps_in old) ≤ old.counted = omega (arith, is.all) in
    subst (λ (m : MachineView). length (steps_in m) ≤ m.counted) c.self.view_is all
