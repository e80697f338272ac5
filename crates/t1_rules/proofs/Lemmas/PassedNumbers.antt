-- Numbers that a machine passes: what watchers and components keep of them.
use Rattle.std.proofs.Common.{◌≡◌, ℕ, ℤ, zero, suc, ◌+◌, ◌-◌, ◌<◌, ◌≤◌, true, false, Option, Some, None, List, [], ◌∷◌, ◌++◌, length, length-take, nat_lt, take, refl, sym, ap, subst, ◌∙◌, arith}
use Rattle.std.proofs.Math.Bool.{or-false}
use Rattle.std.proofs.lemmas.Bool.{and_parts, ltb-true}
use Rattle.std.proofs.lemmas.List.{get_or-take, take_more}
use Rattle.std.proofs.lemmas.Option.{get_or_from_slice_get, slice_get_within}
use Rattle.t1_char.specs.declared.edition.Edition.{Edition}
use Rattle.t1_char.specs.declared.token.CharToken.{CharToken}
use Rattle.t1_char.specs.declared.token.CharToken.TheVariants.{Number}
use Rattle.t1_char.specs.Editions.{limit_of}
use Rattle.t1_char.specs.Passing.{ArePassed, IsPassed}
use Rattle.t1_char.specs.Steps.{StepView, steps_of, is_number}
use Rattle.t1_char.specs.AnswerViews.{answer_view}
use Rattle.t1_char.specs.Asking.{IsAsked}
use Rattle.t1_char.specs.declared.machine.Answer.{Answer}
use Rattle.t1_char.specs.declared.machine.Answer.TheVariants as answers
use Rattle.t1_char.specs.declared.machine.Numbers.{Numbers}
use Rattle.t1_char.specs.declared.step.Step.{Step}
use Rattle.t1_char.specs.StepValues.{step_value, step_view}
use Rattle.t1_char.specs.Turns.{MachineView, stepped}
use Rattle.t1_char.proofs.TurnsTaken.{Executes, IsStepped, answered_over, behind, executes_behind, machine_counted, machine_stepped, same_turn}
use Rattle.t1_font.specs.Fonts.{FontValue}
use Rattle.t1_rules.specs.declared.sidebearings.Component.{Component}
use Rattle.t1_rules.specs.Components.{component_in}
use Rattle.t1_rules.specs.Private.Seac.{sidebearing_with, with_step}
use Rattle.t1_rules.proofs.Lemmas.Components.{component_goes_on}

-- A number that there is room for.
pub record IsKept (step : StepView) : Type 0 where
  pub number : ℤ
  pub token : step.token ≡ Number number
  pub room : length step.stack < 24

a_number : (t : CharToken) → is_number t ≡ true → (z : ℤ) × (t ≡ Number z)
a_number (Number z) is = (z, refl)
a_number _ is = let no : false ≡ true = is in cc

pub kept : (limit : ℕ) (all : List StepView) (k : ℕ) → (passed : IsPassed limit all k) → IsKept passed.step
kept limit all k passed =
    let parts = and_parts (is_number passed.step.token) (nat_lt (length passed.step.stack) 24) passed.kept in
    let number = a_number passed.step.token parts.0 in
    record { number = number.0; token = number.1; room = ltb-true (length passed.step.stack) 24 parts.1 }

-- A number changes nothing of a component.
same_sidebearing : (known : Option ℤ) (t : StepView) (z : ℤ) → t.token ≡ Number z → sidebearing_with known t ≡ known
same_sidebearing None t z is = rw is refl
same_sidebearing (Some sidebearing) t z is = refl

with_number : (known : Component) (t : StepView) (z : ℤ) → t.token ≡ Number z → with_step known t ≡ known
with_number known t z is = rw (same_sidebearing known.sidebearing t z is, is, or-false known.has_seac) refl

take_one_more : (limit : ℕ) (all : List StepView) (k : ℕ) → (passed : IsPassed limit all k) → take (k + 1) (take limit all)
    ≡ take k (take limit all) ++ passed.step ∷ []
take_one_more limit all k passed =
    let there : k < length all = slice_get_within all k passed.step passed.there in
    take_more (take limit all) k passed.step (omega (arith, there, passed.near, length-take limit all))
    ∙ ap (λ t. take k (take limit all) ++ t ∷ []) (get_or-take limit all k passed.step passed.near
    ∙ get_or_from_slice_get all k passed.step passed.step passed.there)

stays_at_one : (limit : ℕ) (all : List StepView) (k : ℕ) → IsPassed limit all k → component_in (take (k + 1) (take limit all))
    ≡ component_in (take k (take limit all))
stays_at_one limit all k passed =
    let is = kept limit all k passed in
    ap component_in (take_one_more limit all k passed)
    ∙ component_goes_on (take k (take limit all)) passed.step
    ∙ with_number (component_in (take k (take limit all))) passed.step is.number is.token

stays_at_all : (limit : ℕ) (all : List StepView) (n d : ℕ) → ArePassed limit all n (n + d) → component_in (take (n + d) (take limit all))
    ≡ component_in (take n (take limit all))
stays_at_all limit all n zero passed =
    let same : n + 0 ≡ n = omega arith in
    ap (λ k. component_in (take k (take limit all))) same
stays_at_all limit all n (suc d) passed =
    let same : n + suc d ≡ n + d + 1 = omega arith in
    ap (λ k. component_in (take k (take limit all))) same
    ∙ stays_at_one limit all (n + d) (passed (n + d) (omega arith) (omega arith))
    ∙ stays_at_all limit all n d (λ k from to. passed k from (omega (arith, to)))

of_machine : (edition : Edition) (m : MachineView) (font : FontValue) (glyph counted : ℕ) → Executes edition font glyph m
    → ArePassed (limit_of m.edition) (steps_of m.font m.glyph) m.counted counted → ArePassed (limit_of edition) (steps_of font glyph) m.counted counted
of_machine edition m font glyph counted same passed =
    subst (λ e. ArePassed (limit_of e) (steps_of font glyph) m.counted counted) same.edition_is
    (subst (λ f. ArePassed (limit_of m.edition) (steps_of f glyph) m.counted counted) same.font_is
    (subst (λ g. ArePassed (limit_of m.edition) (steps_of m.font g) m.counted counted) same.glyph_is passed))

pub component_stays : (edition : Edition) (m : MachineView) (font : FontValue) (glyph counted : ℕ) → Executes edition font glyph m → m.counted ≤ counted
    → ArePassed (limit_of m.edition) (steps_of m.font m.glyph) m.counted counted
    → component_in (take m.counted (take (limit_of edition) (steps_of font glyph))) ≡ component_in
    (take counted (take (limit_of edition) (steps_of font glyph)))
component_stays edition m font glyph counted same_run more passed =
    let limit : ℕ = limit_of edition in
    let d : ℕ = counted - m.counted in
    let same : m.counted + d ≡ counted = omega (arith, more) in
    let all = steps_of font glyph in
    sym (stays_at_all limit all m.counted d (subst (λ k. ArePassed limit all m.counted k) (sym same) (of_machine edition m font glyph counted same_run passed)))
    ∙ ap (λ k. component_in (take k (take limit all))) same

-- A machine returned a step after the numbers that it passed: what a component is up to there.
pub record HasTold (edition : Edition) (font : FontValue) (glyph n counted : ℕ) (step : Step) : Type 0 where
  pub before : ℕ
  pub least : n ≤ before
  pub told : IsStepped (limit_of edition) (steps_of font glyph) before (step_value step)
  pub counted_is : counted ≡ before + 1
  pub known : component_in (take n (take (limit_of edition) (steps_of font glyph))) ≡ component_in (take before (take (limit_of edition) (steps_of font glyph)))

pub has_told : (numbers : Numbers) (edition : Edition) (font : FontValue) (glyph : ℕ) (m new : MachineView) (step : Step) → Executes edition font glyph m
    → IsAsked numbers m new (stepped new.step) → step_value step ≡ new.step → HasTold edition font glyph m.counted new.counted step
has_told numbers edition font glyph m new step same asked here =
    let at : MachineView = behind m asked.before in
    let executes : Executes edition font glyph at = executes_behind edition m font glyph asked.before same in
    let told : IsStepped (limit_of edition) (steps_of font glyph) asked.before new.step = machine_stepped edition at font glyph new.step executes asked.turn in
    record {
      before = asked.before;
      least = asked.least;
      told = subst (IsStepped (limit_of edition) (steps_of font glyph) asked.before) (sym here) told;
      counted_is = machine_counted edition at font glyph new.step new.counted executes told asked.counted;
      known = component_stays edition m font glyph asked.before same asked.least asked.passed;
    }

-- With the step.
pub known_with : (edition : Edition) (font : FontValue) (glyph n counted : ℕ) (step : Step) (old new : Component) → HasTold edition font glyph n counted step
    → old ≡ component_in (take n (take (limit_of edition) (steps_of font glyph))) → new ≡ with_step old (step_view step)
    → new ≡ component_in (take counted (take (limit_of edition) (steps_of font glyph)))
known_with edition font glyph n counted step old new told is more =
    let steps = take (limit_of edition) (steps_of font glyph) in
    more
    ∙ ap (λ component. with_step component (step_view step)) (is ∙ told.known)
    ∙ sym (component_goes_on (take told.before steps) (step_view step))
    ∙ ap component_in (sym told.told.more)
    ∙ ap (λ k. component_in (take k steps)) (sym told.counted_is)

-- After the last step.
pub known_over : (numbers : Numbers) (edition : Edition) (font : FontValue) (glyph : ℕ) (m new : MachineView) (answer : Answer) → Executes edition font glyph m
    → IsAsked numbers m new (answer_view answer new.step) → (answer ≡ answers.Step → ⊥)
    → component_in (take m.counted (take (limit_of edition) (steps_of font glyph))) ≡ component_in (take (limit_of edition) (steps_of font glyph))
known_over numbers edition font glyph m new answer same asked other =
    let at : MachineView = behind m asked.before in
    component_stays edition m font glyph asked.before same asked.least asked.passed
    ∙ ap component_in (answered_over (limit_of edition) (steps_of font glyph) asked.before answer new.step other
    (asked.turn ∙ same_turn edition at font glyph (executes_behind edition m font glyph asked.before same)))

-- How many calls are left after the step.
pub fewer_left_behind : (edition : Edition) (font : FontValue) (glyph n counted : ℕ) (step : Step) → HasTold edition font glyph n counted step
    → limit_of edition + 1 - counted < limit_of edition + 1 - n
fewer_left_behind edition font glyph n counted step told =
    omega (arith, told.least, told.counted_is, told.told.within, length-take (limit_of edition) (steps_of font glyph))
