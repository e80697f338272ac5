-- Numbers that a machine passes, while the watchers are calm.
use Rattle.std.proofs.Common.{◌≡◌, ℕ, ℤ, zero, suc, ◌+◌, ◌-◌, ◌<◌, ◌≤◌, ◌&&◌, inl, inr, true, false, List, [], ◌∷◌, ◌++◌, length, take, refl, sym, ap, subst, ◌∙◌, arith}
use Rattle.std.proofs.Math.Bool.{and-false}
use Rattle.std.proofs.lemmas.Bool.{cases_lt}
use Rattle.t1_char.specs.declared.edition.Edition.{Edition}
use Rattle.t1_char.specs.Editions.{has_latest_rules}
use Rattle.t1_char.specs.declared.token.CharToken.TheVariants.{Number}
use Rattle.t1_char.specs.Arguments.{is_hint_replacement}
use Rattle.t1_char.specs.Passing.{ArePassed, IsPassed}
use Rattle.t1_char.specs.Since.{was}
use Rattle.t1_char.specs.Steps.{NumberedStep, StepView, steps_of}
use Rattle.t1_char.specs.AnswerViews.{answer_view, is_over}
use Rattle.t1_char.specs.declared.machine.Answer.{Answer}
use Rattle.t1_char.specs.declared.machine.Answer.TheVariants as answers
use Rattle.t1_char.specs.declared.machine.Answer.TheVariants.{Ended, Limit}
use Rattle.t1_char.specs.declared.step.Step.{Step}
use Rattle.t1_char.specs.Turns.{ended}
use Rattle.t1_char.proofs.TurnsTaken.{IsOver}
use Rattle.t1_drawing.specs.DrawingRules.{box_of}
use Rattle.t1_drawing.proofs.Numbers.{no_fault_at_number as draws_none}
use Rattle.t1_rules.specs.declared.sidebearings.Component.{Component}
use Rattle.t1_rules.specs.declared.watches.Watches.{Watches}
use Rattle.t1_rules.specs.Components.{components_of}
use Rattle.t1_rules.specs.StepRules.{StepRule, breaks, breaks_next, component_rules}
use Rattle.t1_rules.specs.Private.Standing.{WatchesStandFor}
use Rattle.t1_rules.specs.Watches.{IsCalm}
use Rattle.t1_rules.specs.StepRules.Stems.{popping}
use Rattle.t1_rules.proofs.Lemmas.Before.{was_last}
use Rattle.t1_rules.proofs.Lemmas.PassedNumbers.{kept}
use Rattle.t1_rules.proofs.Lemmas.Watches.{no_fault_at_number, stays_at_number}
use Rattle.t1_report.specs.Checked.{CheckedFont, step_limit}
use Rattle.t1_report.specs.Laws.PassedNumbers.{CalmIsBehindNoReplacement, CalmWatchersStandBehindNumbers, IsBehindNoReplacement, PassedNumbersBreakNoRule}
use Rattle.t1_report.specs.Reports.{is_broken, rules_of}
use Rattle.t1_report.specs.Private.Units.{IsQuiet}
use Rattle.t1_report.specs.Walks.{turns_of_glyph}
use Rattle.t1_report.proofs.Broken.{at_step, both_kinds, breaks_neither, rules_by, within_limit}
use Rattle.t1_report.proofs.GlyphSteps.{take_next}
use Rattle.t1_report.proofs.RunSteps.{IsRunAt, IsTold}

-- Calm watchers also match the steps with such numbers after them.
pub stands_more : (edition : Edition) (w : Watches) (limit : ℕ) (all : List StepView) (k : ℕ) → IsCalm w → IsPassed limit all k
    → WatchesStandFor edition w (take k all) → WatchesStandFor edition w (take (k + 1) all)
stands_more edition w limit all k calm passed st =
    let is = kept limit all k passed in
    subst (WatchesStandFor edition w) (sym (take_next all k passed.step passed.there))
    (stays_at_number edition w (take k all) passed.step is.number is.token calm st)

stands_behind : (edition : Edition) (w : Watches) (limit : ℕ) (all : List StepView) (n d : ℕ) → IsCalm w → ArePassed limit all n (n + d)
    → WatchesStandFor edition w (take n all) → WatchesStandFor edition w (take (n + d) all)
stands_behind edition w limit all n zero calm passed st =
    let same : n ≡ n + 0 = omega arith in
    subst (λ k. WatchesStandFor edition w (take k all)) same st
stands_behind edition w limit all n (suc d) calm passed st =
    let same : n + d + 1 ≡ n + suc d = omega arith in
    subst (λ k. WatchesStandFor edition w (take k all)) same
    (stands_more edition w limit all (n + d) calm (passed (n + d) (omega arith) (omega arith))
    (stands_behind edition w limit all n d calm (λ k from to. passed k from (omega (arith, to))) st))

-- The same up to any of them.
stands_at : (edition : Edition) (w : Watches) (limit : ℕ) (all : List StepView) (n m k : ℕ) → IsCalm w → ArePassed limit all n m → n ≤ k → k ≤ m
    → WatchesStandFor edition w (take n all) → WatchesStandFor edition w (take k all)
stands_at edition w limit all n m k calm passed from to st =
    let same : n + (k - n) ≡ k = omega (arith, from) in
    subst (λ i. WatchesStandFor edition w (take i all)) same
    (stands_behind edition w limit all n (k - n) calm (λ i past less. passed i past (omega (arith, past, less, from, to))) st)

-- No rule is broken at such a number.
pub no_component_fault : (components : List Component) (n : ℕ) (before : List StepView) (t : StepView) (z : ℤ) → t.token ≡ Number z
    → breaks (component_rules components) n before t ≡ false
unfolding component_rules
no_component_fault components n before t z is = rw is refl

pub none_at : (font : CheckedFont) (unit glyph k n : ℕ) → unit ≡ glyph + 1 → glyph < length font.value.glyphs
    → IsPassed (step_limit font) (steps_of font.value glyph) k
    → IsBehindNoReplacement (take k (steps_of font.value glyph)) → is_broken font unit (k + 1) n ≡ false
none_at font unit glyph k n at there passed none =
    let all : List StepView = steps_of font.value glyph in
    let is = kept (step_limit font) all k passed in
    let components = components_of (step_limit font) font.value in
    at_step font unit (k + 1) glyph k n at refl there
    ∙ within_limit (step_limit font) (rules_of font) n all k passed.near
    ∙ ap (breaks_next (rules_of font) n (take k all)) passed.there
    ∙ ap (λ (rules : List StepRule). breaks rules n (take k all) passed.step) (sym (rules_by font components refl))
    ∙ breaks_neither font.edition components (box_of font.value) n (take k all) passed.step
    (sym (both_kinds font.edition components n (take k all) passed.step false false false refl
    (sym (no_fault_at_number font.edition n (take k all) passed.step is.number is.token is.room none.0 none.1))
    (sym (no_component_fault components n (take k all) passed.step is.number is.token))))
    (ap (λ b. has_latest_rules font.edition && b) (draws_none (take k all) passed.step is.number is.token (box_of font.value) n) ∙ and-false _)

-- After a number, no rule speaks of the last steps.
behind_number : (before : List StepView) (t : StepView) (z : ℤ) → t.token ≡ Number z → IsBehindNoReplacement (before ++ t ∷ [])
behind_number before t z is = (
  was_last is_hint_replacement before t ∙ rw is refl,
  ap (λ b. was 1 is_hint_replacement (before ++ t ∷ []) && b) (was_last popping before t ∙ rw is refl)
      ∙ and-false (was 1 is_hint_replacement (before ++ t ∷ [])),
)

behind_none : (limit : ℕ) (all : List StepView) (n m k : ℕ) → ArePassed limit all n m → n ≤ k → k < m → IsBehindNoReplacement (take n all)
    → IsBehindNoReplacement (take k all)
behind_none limit all n m k passed from to none =
    elim (cases_lt n k) [
      | inl less ↦
          let last = passed (k - 1) (omega (arith, less)) (omega (arith, less, to)) in
          let is = kept limit all (k - 1) last in
          let place : k - 1 + 1 ≡ k = omega (arith, less) in
          subst (λ i. IsBehindNoReplacement (take i all)) place
          (subst IsBehindNoReplacement (sym (take_next all (k - 1) last.step last.there)) (behind_number (take (k - 1) all) last.step is.number is.token))
      | inr least ↦
          let same : n ≡ k = omega (arith, least, from) in
          subst (λ i. IsBehindNoReplacement (take i all)) same none
    ]

-- Three laws.
pub calm_is_behind_none : CalmIsBehindNoReplacement
unfolding WatchesStandFor
calm_is_behind_none edition w before st calm = (sym st.1.0.replaced ∙ calm.replaced, sym st.1.0.popped ∙ calm.hints_popped)

pub passed_break_none : PassedNumbersBreakNoRule
passed_break_none font glyph from to place n there none passed least less =
    let unit_is : suc glyph ≡ glyph + 1 = omega arith in
    let step_is : place + 1 ≡ suc place = omega arith in
    subst (λ step. is_broken font (suc glyph) step n ≡ false) step_is
    (none_at font (suc glyph) glyph place n unit_is there (passed place least less)
    (behind_none (step_limit font) (steps_of font.value glyph) from to place passed least less none))

pub calm_stand_behind : CalmWatchersStandBehindNumbers
calm_stand_behind font glyph from to w more passed calm st = stands_at font.edition w (step_limit font) (steps_of font.value glyph) from to to
    calm passed more (omega arith) st

-- After the numbers that a machine passed, none where a rule may speak of them.
pub record StandsBehind (font : CheckedFont) (glyph unit from before : ℕ) (w : Watches) : Type 0 where
  pub run : IsRunAt font glyph before w
  pub quiet : IsQuiet font unit from (before + 1)

-- The same with all that is known before the step.
pub record IsTurn (font : CheckedFont) (glyph unit from n before counted : ℕ) (w : Watches) (step : Step) : Type 0 where
  pub least : n ≤ before
  pub stands : StandsBehind font glyph unit from before w
  pub told : IsTold font glyph before counted step

-- Or that there is none.
pub ended_view : (answer : Answer) (step : NumberedStep) → is_over answer ≡ true → ended ≡ answer_view answer step
ended_view Ended step is = refl
ended_view answers.Step step is = let no : false ≡ true = is in cc
ended_view Limit step is = let no : false ≡ true = is in cc

pub record EndsBehind (font : CheckedFont) (glyph before counted : ℕ) : Type 0 where
  pub over : IsOver (step_limit font) (steps_of font.value glyph) before
  pub counted_is : counted ≡ turns_of_glyph font glyph

-- How many more steps can be requested then.
pub fewer_turns_left : (font : CheckedFont) (glyph unit from n before counted : ℕ) (w : Watches) (step : Step) → IsTurn font glyph unit from n before counted w step
    → n ≤ step_limit font → step_limit font + 1 - counted < step_limit font + 1 - n
fewer_turns_left font glyph unit from n before counted w step turn near = omega (arith, turn.least, turn.told.counted_is, near)
