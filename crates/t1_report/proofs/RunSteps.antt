-- A glyph whose steps a machine returns: what is broken at each, and that nothing is after the last.
-- A result of the machine has its place in the list of steps; what watchers say there is what the definition says of that place.
use Rattle.std.proofs.Common.{◌≡◌, ◌⊎◌, ℕ, ◌+◌, ◌<◌, ◌≤◌, inl, inr, if◌then◌else◌, nat_lt, Bool, true, false, Some, List, [], ◌∷◌, ◌++◌, slice_get, length, length-take, take, refl, sym, ap, subst, ◌∙◌, le-ltb, arith}
use Rattle.std.proofs.lemmas.Bool.{cases_lt, ltb-true, ltb-false}
use Rattle.std.proofs.lemmas.List.{take_all}
use Rattle.t1_char.specs.Editions.{limit_of}
use Rattle.t1_char.specs.declared.step.Step.{Step}
use Rattle.t1_char.specs.Steps.{StepView, steps_of}
use Rattle.t1_char.specs.StepValues.{step_view, step_value}
use Rattle.t1_char.specs.Turns.{MachineView, stepped, ended, limited, turn_at, counted_after}
use Rattle.t1_char.proofs.TurnsTaken.{Executes, IsStepped, IsLimited, IsOver, same_count, same_turn, stepped_is, limited_is, ended_is}
use Rattle.t1_drawing.specs.DrawingRules.{box_of}
use Rattle.t1_report.specs.Checked.{CheckedFont, step_limit}
use Rattle.t1_rules.specs.declared.mask.Mask.{Mask}
use Rattle.t1_rules.specs.declared.rule.Rule.{Rule}
use Rattle.t1_rules.specs.declared.watches.Watches.{Watches}
use Rattle.t1_rules.specs.Book.{number_of}
use Rattle.t1_rules.specs.Components.{AreOf, ComponentsView, components_of}
use Rattle.t1_rules.specs.Mask.{HasNoneAbove, has}
use Rattle.t1_rules.specs.StepRules.{StepRule}
use Rattle.t1_rules.proofs.Lemmas.Book.{in_book}
use Rattle.t1_report.specs.declared.walk.found.Found.{Found}
use Rattle.t1_report.specs.Reports.{is_broken, path_in, path_of_step, rules_of, rules_with, step_breaks}
use Rattle.t1_report.specs.Private.Units.{IsFirst, IsQuiet, IsRun, executed}
use Rattle.t1_report.specs.Private.Reporting.{HaveSeen}
use Rattle.t1_report.specs.Walks.{turns_of_glyph}
use Rattle.t1_report.proofs.Broken.{at_step, past_steps, path_at_step, rules_by, so_far_decides}
use Rattle.t1_report.proofs.GlyphSteps.{IsListed, take_next}

-- The step that a machine returned is that of the list, up to the limit and just past it.
pub listed_stepped : (limit : ℕ) (all : List StepView) (n : ℕ) (step : Step) → IsStepped limit all n (step_value step) → IsListed limit all n step
listed_stepped limit all n step is =
    record { number = is.number; there = is.there; few = omega (arith, is.within, length-take limit all) }

pub listed_limited : (limit : ℕ) (all : List StepView) (n : ℕ) (step : Step) → n ≤ limit → IsLimited limit all n (step_value step) → IsListed limit all n step
listed_limited limit all n step near is =
    let at : limit ≡ n = omega (arith, near, is.past) in
    record {
      number = subst (λ k. step.number ≡ k + 1) at is.number;
      there = subst (λ k. slice_get all k ≡ Some (step_view step)) at is.there;
      few = near;
    }

-- Either is one turn more.
pub turns_stepped : (font : CheckedFont) (glyph n : ℕ) (step : Step) → IsStepped (step_limit font) (steps_of font.value glyph) n (step_value step)
    → n + 1 ≤ turns_of_glyph font glyph
unfolding turns_of_glyph
turns_stepped font glyph n step is = omega (arith, is.within)

turns_past : (limit : ℕ) (all : List StepView) (n : ℕ) → n ≤ limit → limit < length all → n + 1 ≤ length (take limit all) + 1
turns_past limit all n near within = omega (arith, near, within, length-take limit all)

pub turns_limited : (font : CheckedFont) (glyph n : ℕ) (step : Step) → n ≤ step_limit font → IsLimited (step_limit font) (steps_of font.value glyph) n
    (step_value step) → n + 1 ≤ turns_of_glyph font glyph
unfolding turns_of_glyph
turns_limited font glyph n step near is = turns_past (step_limit font) (steps_of font.value glyph) n near is.within

-- What watchers and components say at a listed step is what is broken there.
pub step_agrees : (font : CheckedFont) (unit glyph place : ℕ) (step : Step) (components : ComponentsView) (mask : Mask) → unit ≡ glyph + 1
    → glyph < length font.value.glyphs → IsListed (step_limit font) (steps_of font.value glyph) place step → AreOf font.value components
    → components.edition ≡ font.edition
    → ((n : ℕ) → has mask n ≡ step_breaks (limit_of components.edition) (rules_with components.edition components.components (box_of font.value)) n
    (take place (steps_of font.value glyph) ++ step_view step ∷ []) (length (take place (steps_of font.value glyph))))
    → (n : ℕ) → has mask n ≡ is_broken font unit step.number n
step_agrees font unit glyph place step components mask at there is are same answers n =
    let all : List StepView = steps_of font.value glyph in
    let those : components.components ≡ components_of (step_limit font) font.value = are ∙ ap (λ e. components_of (limit_of e) font.value) same in
    answers n
    ∙ ap (λ e. step_breaks (limit_of e) (rules_with e components.components (box_of font.value)) n (take place all ++ step_view step ∷ []) (length (take place all))) same
    ∙ ap (λ (rules : List StepRule). step_breaks (step_limit font) rules n (take place all ++ step_view step ∷ []) (length (take place all)))
    (rules_by font components.components those)
    ∙ so_far_decides (step_limit font) (rules_of font) n all place (step_view step) is.there
    ∙ sym (at_step font unit step.number glyph place n at is.number there)

-- One quiet step more.
pub quiet_more : (font : CheckedFont) (unit from n : ℕ) (step : Step) (mask : Mask) → step.number ≡ n + 1 → IsQuiet font unit from (n + 1)
    → ((k : ℕ) → has mask k ≡ is_broken font unit step.number k) → HasNoneAbove mask 0 → IsQuiet font unit from (n + 1 + 1)
quiet_more font unit from n step mask number so_far agrees none = λ s rule past less.
    elim (cases_lt s (n + 1)) [
      | inl before ↦ so_far s rule past before
      | inr here ↦
          let at : s ≡ step.number = omega (arith, here, less, number) in
          ap (λ (t : ℕ). is_broken font unit t (number_of rule)) at
          ∙ sym (agrees (number_of rule)) ∙ none (number_of rule) (in_book rule).0 (in_book rule).1
    ]

-- What was found at a listed step.
pub found_at : (font : CheckedFont) (unit glyph from n : ℕ) (step : Step) (found : Found) → glyph < length font.value.glyphs → unit ≡ glyph + 1
    → IsListed (step_limit font) (steps_of font.value glyph) n step → from ≤ n + 1
    → IsQuiet font unit from (n + 1) → found.unit ≡ unit → found.step ≡ step.number → found.path.items ≡ step.path.items
    → ((k : ℕ) → has found.rules k ≡ is_broken font unit step.number k) → IsFirst font unit from found
found_at font unit glyph from n step found there at is past so_far unit_is step_is path agrees =
    record {
      unit_is = unit_is;
      behind = omega (arith, past, step_is, is.number);
      quiet = subst (λ k. IsQuiet font unit from k) (sym (step_is ∙ is.number)) so_far;
      rules = λ k. agrees k ∙ ap (λ s. is_broken font unit s k) (sym step_is);
      path = path ∙ sym (ap (path_in font.value unit) step_is ∙ path_at_step font.value unit step.number glyph n at is.number there ∙ ap path_of_step is.there);
    }

-- After the end, and after the limit, nothing is broken, and all turns were taken.
quiet_past : (font : CheckedFont) (unit glyph from n : ℕ) → unit ≡ glyph + 1 → length (take (step_limit font + 1) (steps_of font.value glyph)) ≤ n
    → ((s : ℕ) (r : Rule) → from ≤ s → s < n + 1 → is_broken font unit s (number_of r) ≡ false)
    → (s : ℕ) (r : Rule) → from ≤ s → is_broken font unit s (number_of r) ≡ false
quiet_past font unit glyph from n at all so_far s rule past =
    elim (cases_lt s (n + 1)) [
      | inl before ↦ so_far s rule past before
      | inr behind ↦ past_steps font unit glyph s (number_of rule) at (omega (arith, behind, all))
    ]

pub quiet_over : (font : CheckedFont) (unit glyph from n : ℕ) → unit ≡ glyph + 1 → IsOver (step_limit font) (steps_of font.value glyph) n
    → ((s : ℕ) (r : Rule) → from ≤ s → s < n + 1 → is_broken font unit s (number_of r) ≡ false)
    → (s : ℕ) (r : Rule) → from ≤ s → is_broken font unit s (number_of r) ≡ false
quiet_over font unit glyph from n at over so_far =
    quiet_past font unit glyph from n at (omega (arith, over.all, length-take (step_limit font + 1) (steps_of font.value glyph))) so_far

pub quiet_limit : (font : CheckedFont) (unit glyph from n : ℕ) → unit ≡ glyph + 1 → step_limit font < n
    → ((s : ℕ) (r : Rule) → from ≤ s → s < n + 1 → is_broken font unit s (number_of r) ≡ false)
    → (s : ℕ) (r : Rule) → from ≤ s → is_broken font unit s (number_of r) ≡ false
quiet_limit font unit glyph from n at past so_far =
    quiet_past font unit glyph from n at (omega (arith, past, length-take (step_limit font + 1) (steps_of font.value glyph))) so_far

over_turns : (limit : ℕ) (all : List StepView) (n counted : ℕ) → IsOver limit all n → n ≤ length (take limit all) + 1 → counted ≡ counted_after limit all n
    → counted ≡ length (take limit all) + 1
over_turns limit all n counted over few is = is ∙ by_place (nat_lt (length (take limit all)) n) refl
  where
    by_place : (b : Bool) → nat_lt (length (take limit all)) n ≡ b → (if b then n else n + 1) ≡ length (take limit all) + 1
    by_place true past = omega (arith, ltb-true (length (take limit all)) n past, few)
    by_place false near = omega (arith, ltb-false (length (take limit all)) n near, over.all, over.few, length-take limit all)

pub turns_over : (font : CheckedFont) (glyph n counted : ℕ) → IsOver (step_limit font) (steps_of font.value glyph) n → n ≤ turns_of_glyph font glyph
    → counted ≡ counted_after (step_limit font) (steps_of font.value glyph) n → counted ≡ turns_of_glyph font glyph
unfolding turns_of_glyph
turns_over font glyph n counted over few is = over_turns (step_limit font) (steps_of font.value glyph) n counted over few is

limit_turns : (limit : ℕ) (all : List StepView) (n : ℕ) → limit < n → n ≤ length (take limit all) + 1 → n ≡ length (take limit all) + 1
limit_turns limit all n past few = omega (arith, past, few, length-take limit all)

pub turns_at_limit : (font : CheckedFont) (glyph n : ℕ) → step_limit font < n → n ≤ turns_of_glyph font glyph → n ≡ turns_of_glyph font glyph
unfolding turns_of_glyph
turns_at_limit font glyph n past few = limit_turns (step_limit font) (steps_of font.value glyph) n past few

-- The machine returned a step, or the limit: the step is that of the list, and one step more was requested.
pub record IsTold (font : CheckedFont) (glyph n counted : ℕ) (step : Step) : Type 0 where
  pub listed : IsListed (step_limit font) (steps_of font.value glyph) n step
  pub counted_is : counted ≡ n + 1
  pub turns : counted ≤ turns_of_glyph font glyph

-- A machine that executes a glyph of a checked font.
executing : (m : MachineView) (font : CheckedFont) (glyph : ℕ) → executed m ≡ font → m.glyph ≡ glyph → Executes font.edition font.value glyph m
executing m font glyph of_font of_glyph =
    record { edition_is = ap (λ (f : CheckedFont). f.edition) of_font; font_is = ap (λ (f : CheckedFont). f.value) of_font; glyph_is = of_glyph }

count_near : (limit : ℕ) (all : List StepView) (n : ℕ) → n ≤ length (take limit all) → counted_after limit all n ≡ n + 1
count_near limit all n near = ap (λ b. if b then n else n + 1) (le-ltb (length (take limit all)) n near)

count_limited : (limit : ℕ) (all : List StepView) (n : ℕ) → n ≤ limit → limit < length all → counted_after limit all n ≡ n + 1
count_limited limit all n near within = count_near limit all n (omega (arith, near, within, length-take limit all))

-- A step or the limit that was returned after n others.
told_by : (font : CheckedFont) (glyph n : ℕ) (step : Step) → n ≤ step_limit font
    → IsStepped (step_limit font) (steps_of font.value glyph) n (step_value step) ⊎ IsLimited (step_limit font) (steps_of font.value glyph) n (step_value step)
    → IsTold font glyph n (counted_after (step_limit font) (steps_of font.value glyph) n) step
told_by font glyph n step near (inl is) =
    record {
      listed = listed_stepped (step_limit font) (steps_of font.value glyph) n step is;
      counted_is = is.counted;
      turns = subst (λ k. k ≤ turns_of_glyph font glyph) (sym is.counted) (turns_stepped font glyph n step is);
    }
told_by font glyph n step near (inr is) =
    let once = count_limited (step_limit font) (steps_of font.value glyph) n near is.within in
    record {
      listed = listed_limited (step_limit font) (steps_of font.value glyph) n step near is;
      counted_is = once;
      turns = subst (λ k. k ≤ turns_of_glyph font glyph) (sym once) (turns_limited font glyph n step near is);
    }

-- A machine of which no more steps were requested than the limit, and which returned a step or the limit.
pub told_at : (m : MachineView) (font : CheckedFont) (glyph counted : ℕ) (step : Step) → executed m ≡ font → m.glyph ≡ glyph → m.counted ≤ step_limit font
    → counted ≡ counted_after (limit_of m.edition) (steps_of m.font m.glyph) m.counted
    → (stepped (step_value step) ≡ turn_at (limit_of m.edition) (steps_of m.font m.glyph) m.counted)
    ⊎ (limited (step_value step) ≡ turn_at (limit_of m.edition) (steps_of m.font m.glyph) m.counted)
    → IsTold font glyph m.counted counted step
told_at m font glyph counted step of_font of_glyph near count answered =
    let same = executing m font glyph of_font of_glyph in
    let turn = same_turn font.edition m font.value glyph same in
    subst (λ n. IsTold font glyph m.counted n step) (sym (count ∙ same_count font.edition m font.value glyph same))
    (told_by font glyph m.counted step near
    (elim answered [
      | inl is ↦ inl (stepped_is (step_limit font) (steps_of font.value glyph) m.counted (step_value step) (is ∙ turn))
      | inr is ↦ inr (limited_is (step_limit font) (steps_of font.value glyph) m.counted (step_value step) (is ∙ turn))
    ]))

pub told_end : (m : MachineView) (font : CheckedFont) (glyph : ℕ) → executed m ≡ font → m.glyph ≡ glyph
    → ended ≡ turn_at (limit_of m.edition) (steps_of m.font m.glyph) m.counted → IsOver (step_limit font) (steps_of font.value glyph) m.counted
told_end m font glyph of_font of_glyph turn = ended_is (step_limit font) (steps_of font.value glyph) m.counted
    (turn ∙ same_turn font.edition m font.value glyph (executing m font glyph of_font of_glyph))

pub count_at_end : (m : MachineView) (font : CheckedFont) (glyph counted : ℕ) → executed m ≡ font → m.glyph ≡ glyph
    → IsOver (step_limit font) (steps_of font.value glyph) m.counted → m.counted ≤ turns_of_glyph font glyph
    → counted ≡ counted_after (limit_of m.edition) (steps_of m.font m.glyph) m.counted → counted ≡ turns_of_glyph font glyph
count_at_end m font glyph counted of_font of_glyph over few count =
    turns_over font glyph m.counted counted over few (count ∙ same_count font.edition m font.value glyph (executing m font glyph of_font of_glyph))

-- A run of this glyph of this font.
pub record IsRunAt (font : CheckedFont) (glyph counted : ℕ) (watches : Watches) : Type 0 where
  pub counted_few : counted ≤ turns_of_glyph font glyph
  pub seen_are : HaveSeen font.edition watches (take counted (steps_of font.value glyph))

pub run_at : (font : CheckedFont) (glyph : ℕ) (m : MachineView) (watches : Watches) → executed m ≡ font → m.glyph ≡ glyph → IsRun m watches
    → IsRunAt font glyph m.counted watches
run_at font glyph m watches of_font of_glyph run =
    subst (λ f. IsRunAt f glyph m.counted watches) of_font
    (subst (λ g. IsRunAt (executed m) g m.counted watches) of_glyph (record { counted_few = run.counted; seen_are = run.seen }))

pub run_of : (font : CheckedFont) (glyph : ℕ) (m : MachineView) (watches : Watches) → executed m ≡ font → m.glyph ≡ glyph → glyph < length font.value.glyphs
    → IsRunAt font glyph m.counted watches → IsRun m watches
run_of font glyph m watches of_font of_glyph there at =
    let same : IsRunAt (executed m) m.glyph m.counted watches =
    subst (λ g. IsRunAt (executed m) g m.counted watches) (sym of_glyph) (subst (λ f. IsRunAt f glyph m.counted watches) (sym of_font) at) in
    record {
      there = subst (λ g. g < length m.font.glyphs) (sym of_glyph) (subst (λ (f : CheckedFont). glyph < length f.value.glyphs) (sym of_font) there);
      counted = same.counted_few;
      seen = same.seen_are;
    }

-- The steps with one more, and after the end.
pub taken_more : (font : CheckedFont) (glyph n counted : ℕ) (step : Step) → IsTold font glyph n counted step
    → take counted (steps_of font.value glyph) ≡ take n (steps_of font.value glyph) ++ step_view step ∷ []
taken_more font glyph n counted step told =
    ap (λ k. take k (steps_of font.value glyph)) told.counted_is ∙ take_next (steps_of font.value glyph) n (step_view step) told.listed.there

pub taken_over : (font : CheckedFont) (glyph n counted : ℕ) → IsOver (step_limit font) (steps_of font.value glyph) n → counted ≡ turns_of_glyph font glyph
    → take counted (steps_of font.value glyph) ≡ take n (steps_of font.value glyph)
unfolding turns_of_glyph
taken_over font glyph n counted over count =
    let all : List StepView = steps_of font.value glyph in
    take_all counted all (whole (step_limit font) all n counted over count) ∙ sym (take_all n all over.all)
  where
    whole : (limit : ℕ) (all : List StepView) (n counted : ℕ) → IsOver limit all n → counted ≡ length (take limit all) + 1 → length all ≤ counted
    whole limit all n counted over is = omega (arith, over.few, is, length-take limit all)

-- One step more.
pub run_more : (font : CheckedFont) (glyph n counted : ℕ) (step : Step) (watches : Watches) → IsTold font glyph n counted step
    → HaveSeen font.edition watches (take n (steps_of font.value glyph) ++ step_view step ∷ []) → IsRunAt font glyph counted watches
run_more font glyph n counted step watches told seen =
    record {
      counted_few = told.turns;
      seen_are = subst (HaveSeen font.edition watches) (sym (taken_more font glyph n counted step told)) seen;
    }

-- After the end no step was seen more.
pub run_over : (font : CheckedFont) (glyph n counted : ℕ) (watches : Watches) → IsOver (step_limit font) (steps_of font.value glyph) n
    → counted ≡ turns_of_glyph font glyph → IsRunAt font glyph n watches → IsRunAt font glyph counted watches
run_over font glyph n counted watches over count run =
    record {
      counted_few = omega (arith, count);
      seen_are = subst (HaveSeen font.edition watches) (sym (taken_over font glyph n counted over count)) run.seen_are;
    }
