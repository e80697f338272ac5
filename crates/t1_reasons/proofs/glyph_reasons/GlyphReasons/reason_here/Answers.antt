use Rattle.std.proofs.Common.{◌≡◌, ◌-◌, ◌<◌, ◌≤◌, nat_lt, false, None, le-ltb, lt-ltb, refl, ap, arith, length, subst, sym, take, ◌∙◌}
use Rattle.std.proofs.lemmas.Bool.{ltb-false}
use Rattle.t1_char.specs.declared.machine.Answer.{Answer}
use Rattle.t1_char.specs.Editions.{limit_of}
use Rattle.t1_char.specs.Steps.{NumberedStep, StepView}
use Rattle.t1_char.specs.StepValues.{step_view}
use Rattle.t1_char.specs.Turns.{MachineView}
use Rattle.t1_drawing.specs.DrawingRules.{box_of, breaks_own}
use Rattle.t1_rules.specs.Components.{components_of}
use Rattle.t1_rules.specs.Book.{last_number_of_third, number_of}
use Rattle.t1_rules.specs.Mask.{has}
use Rattle.t1_reasons.specs.DrawingReasons.{drawing_reason}
use Rattle.t1_reasons.specs.GlyphReasons.{IsAnswer, reason_at, steps_in}
use Rattle.t1_reasons.proofs.Walking.{both_kinds, few_steps, no_reason_at_the_end, reason_in_hand, reason_past_the_limit}
use Rattle.t1_reasons.proofs.glyph_reasons.GlyphReasons.reason_here.Goals as goal

pub returns-then-number-gt-LAST_OF_THIRD : goal.returns-then-number-gt-LAST_OF_THIRD
returns-then-number-gt-LAST_OF_THIRD c =
    let m = c.self.inside.machine in
    let n = number_of c.args.rule in
    let counted : c.counted.result ≡ m.counted = c.counted.ensures.counted in
    let some : 0 < m.counted = omega (arith, counted, c.if-counted-eq0.false) in
    let within : m.counted ≤ length (steps_in m) = subst (λ (a : Answer). IsAnswer a m) c.in-Step.is c.self.invariant.0.answer in
    let past : last_number_of_third < n = omega (arith, c.if-number-gt-LAST_OF_THIRD.true, c.number.ensures.number) in
    c.drawing_reason.ensures
    ∙ subst (λ (x : MachineView). drawing_reason x.edition (box_of x.font) c.args.rule (take (x.counted - 1) (steps_in x)) x.step.step ≡ reason_at x c.args.rule x.counted) c.self.view_is
    (sym (reason_in_hand m c.args.rule some within c.self.invariant.0.in_hand ∙ rw (lt-ltb last_number_of_third n past) refl))

pub returns-else-number-gt-LAST_OF_THIRD : goal.returns-else-number-gt-LAST_OF_THIRD
returns-else-number-gt-LAST_OF_THIRD c =
    let small : nat_lt last_number_of_third (number_of c.args.rule) ≡ false =
    le-ltb last_number_of_third (number_of c.args.rule) (omega (arith, c.if-number-gt-LAST_OF_THIRD.false, c.number.ensures.number)) in
    let m = c.self.inside.machine in
    let before = take (m.counted - 1) (steps_in m) in
    let counted : c.counted.result ≡ m.counted = c.counted.ensures.counted in
    let some : 0 < m.counted = omega (arith, counted, c.if-counted-eq0.false) in
    let within : m.counted ≤ length (steps_in m) = subst (λ (a : Answer). IsAnswer a m) c.in-Step.is c.self.invariant.0.answer in
    let step : step_view c.current-step.result.now ≡ m.step.step = ap (λ (s : NumberedStep). s.step) c.current-step.ensures in
    let components : c.args.sidebearings.now.components ≡ components_of (limit_of m.edition) m.font =
    subst (λ (x : MachineView). c.args.sidebearings.now.components ≡ components_of (limit_of x.edition) x.font) (sym c.self.view_is)
    (rw (← c.requires.edition) c.requires.sidebearings) in
    let own : has c.self.inside.broken (number_of c.args.rule) ≡ breaks_own m.edition (box_of m.font) (number_of c.args.rule) before (step_view c.current-step.result.now) =
    subst (λ (s : StepView). has c.self.inside.broken (number_of c.args.rule) ≡ breaks_own m.edition (box_of m.font) (number_of c.args.rule) before s) (sym step)
    (c.self.invariant.0.broken some within (number_of c.args.rule)) in
    let broken =
    both_kinds m.edition c.args.sidebearings.now.components (box_of m.font) c.self.inside.broken c.see.result c.join-broken.result before
    (step_view c.current-step.result.now) (number_of c.args.rule) (ltb-false last_number_of_third (number_of c.args.rule) small)
    (c.join-broken.ensures (number_of c.args.rule)) own (c.see.ensures before (number_of c.args.rule)) in
    subst (λ (x : MachineView). c.told_of_step.result ≡ reason_at x c.args.rule x.counted) c.self.view_is
    (c.told_of_step.ensures
    ∙ rw (
      c.reason-reason.ensures m.edition before c.self.invariant.0.kept (few_steps m (m.counted - 1)) broken,
      components,
      step,
      ← c.self.invariant.1.font_is,
      ← c.self.invariant.1.glyph_is,
    )
    (sym (reason_in_hand m c.args.rule some within c.self.invariant.0.in_hand ∙ rw small refl)))

pub returns-in-Ended : goal.returns-in-Ended
returns-in-Ended c =
    let m = c.self.inside.machine in
    let is = subst (λ (a : Answer). IsAnswer a m) c.in-Ended.is c.self.invariant.0.answer in
    subst (λ (x : MachineView). None ≡ reason_at x c.args.rule x.counted) c.self.view_is
    (sym (no_reason_at_the_end m c.args.rule m.counted is.0 is.1))

pub returns-in-Limit : goal.returns-in-Limit
returns-in-Limit c =
    let m = c.self.inside.machine in
    let is = subst (λ (a : Answer). IsAnswer a m) c.in-Limit.is c.self.invariant.0.answer in
    let edition : c.edition.result ≡ m.edition =
    c.edition.ensures ∙ c.requires.edition ∙ ap (λ (x : MachineView). x.edition) (sym c.self.view_is) in
    subst (λ (x : MachineView). c.limit_reason.result ≡ reason_at x c.args.rule x.counted) c.self.view_is
    (c.limit_reason.ensures ∙ rw edition (sym (reason_past_the_limit m c.args.rule m.counted is.0 is.1)))
