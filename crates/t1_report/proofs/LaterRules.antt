-- The rules after number 70, and those after number 93, in a report: in their editions alone, and beside the others' faults.
use Rattle.std.proofs.Common.{◌≡◌, ℕ, zero, suc, ◌+◌, ◌/◌, ◌%◌, ◌≤◌, ◌==◌, ◌&&◌, ◌||◌, not, nat_lt, if◌then◌else◌, Bool, true, false, Option, Some, None, List, length, take, slice_get, refl, sym, ap, subst, ◌∙◌, arith}
use Rattle.std.proofs.Math.Bool.{or-false}
use Rattle.std.proofs.lemmas.Bool.{and_parts, eqb-true, leb-true}
use Rattle.t1_char.specs.declared.edition.Edition.{Edition}
use Rattle.t1_char.specs.declared.edition.Edition.TheVariants.{Four, One, Three, Two}
use Rattle.t1_char.specs.Editions.{has_later_rules, has_latest_rules, limit_of}
use Rattle.t1_char.specs.Steps.{StepView, steps_of}
use Rattle.t1_drawing.specs.DrawingRules.{box_of, drawing_rules}
use Rattle.t1_drawing.proofs.RuleNumbers.{drawing_rules_come_last}
use Rattle.t1_font.specs.Fonts.{FontValue, glyph_name}
use Rattle.t1_rules.specs.declared.rule.Rule.TheVariants.{L01, U01}
use Rattle.t1_rules.specs.Book.{last_number_before, last_number_of_third, number_of}
use Rattle.t1_rules.specs.Components.{components_of, glyph_named}
use Rattle.t1_rules.specs.Keys.{index_count}
use Rattle.t1_rules.specs.Laws.Editions.{rules_in}
use Rattle.t1_rules.specs.FontRules.{font_rules, violated}
use Rattle.t1_rules.specs.StepRules.{StepRule, breaks, breaks_next}
use Rattle.t1_rules.proofs.Lemmas.FontRules.{earlier_editions_know_no_later_rule, first_three_know_no_latest_rule, fourth_agrees_with_third, later_rules_change_no_other}
use Rattle.t1_rules.proofs.Lemmas.LaterLaws.{earlier_editions_break_no_later_rule, first_three_break_no_latest_rule, fourth_breaks_as_the_third, third_agrees_with_second}
use Rattle.t1_report.specs.Checked.{CheckedFont, checked}
use Rattle.t1_report.specs.Laws.LaterRules.{AreUpTo, EarlierReportsHaveNoLaterRule, FirstThreeReportNoLatestRule, FourthReportsAsTheThird, ReportTheSame, ThirdReportsAsTheSecond, is_up_to}
use Rattle.t1_report.specs.Reports.{IsTold, Place, is_broken, is_broken_below, is_told, is_unused, is_used, is_used_by, path_at, rules_of, step_breaks, tells_unused}
use Rattle.t1_report.specs.Waivers.{Waiver, is_waived}
use Rattle.t1_report.proofs.Broken.{breaks_both, early_rules}
use Rattle.t1_report.proofs.Editions.{below_same}
use Rattle.t1_report.proofs.WaivedFaults.{same_left}

-- An edition without the rules after number 70 has none after number 93.
pub latest_are_later : (edition : Edition) → has_later_rules edition ≡ false → has_latest_rules edition ≡ false
latest_are_later One none = refl
latest_are_later Two none = refl
latest_are_later Three none = refl
latest_are_later Four none = none

-- ---- an edition that breaks no rule past a number

module _ (font : CheckedFont) (most : ℕ) (room : last_number_before ≤ most)
    (of_fonts : (n key index : ℕ) → violated (font_rules font.edition) n font.value key index ≡ true → n ≤ most)
    (of_steps : (n : ℕ) (before : List StepView) (step : StepView) → breaks (rules_of font) n before step ≡ true → n ≤ most) where
  next_few : (n : ℕ) (before : List StepView) (step : Option StepView) → breaks_next (rules_of font) n before step ≡ true
      → n ≤ most
  next_few n before None is = let no : false ≡ true = is in cc
  next_few n before (Some step) is = of_steps n before step is

  step_few : (n : ℕ) (steps : List StepView) (i : ℕ) → step_breaks (limit_of font.edition) (rules_of font) n steps i ≡ true → n ≤ most
  step_few n steps i is = go (nat_lt i (limit_of font.edition)) is
    where
      at_limit : (there : Bool) → (there && number_of L01 == n) ≡ true → n ≤ most
      at_limit there is =
          let same : number_of L01 ≡ n = eqb-true (number_of L01) n (and_parts there (number_of L01 == n) is).1 in
          omega (arith, same, room)

      go : (b : Bool) → (if b then breaks_next (rules_of font) n (take i steps) (slice_get steps i)
          else (i == limit_of font.edition && nat_lt i (length steps)) && number_of L01 == n) ≡ true → n ≤ most
      go true is = next_few n (take i steps) (slice_get steps i) is
      go false is = at_limit (i == limit_of font.edition && nat_lt i (length steps)) is

  broken_few : (unit step n : ℕ) → is_broken font unit step n ≡ true → n ≤ most
  unfolding is_broken
  broken_few zero step n is = of_fonts n (step / index_count) (step % index_count) is
  broken_few (suc glyph) zero n is = let no : false ≡ true = is in cc
  broken_few (suc glyph) (suc i) n is =
      step_few n (steps_of font.value glyph) i (and_parts (nat_lt glyph (length font.value.glyphs)) _ is).1

  unused_few : (waivers : List Waiver) (step n : ℕ) → tells_unused font waivers step n ≡ true → n ≤ most
  unused_few waivers zero n is = let no : false ≡ true = is in cc
  unused_few waivers (suc i) n is =
      let same : number_of U01 ≡ n = eqb-true (number_of U01) n (and_parts (number_of U01 == n) _ is).0 in
      omega (arith, same, room)

  told_few : (waivers : List Waiver) (unit step n : ℕ) → is_told font waivers unit step n ≡ true → n ≤ most
  unfolding is_told
  told_few waivers zero step n is = broken_few 0 step n is
  told_few waivers (suc glyph) step n is = go (glyph == length font.value.glyphs) is
    where
      go : (b : Bool) → (if b then tells_unused font waivers step n
          else is_broken font (suc glyph) step n && not (is_waived waivers (glyph_name font.value glyph) n)) ≡ true → n ≤ most
      go true is = unused_few waivers step n is
      go false is = broken_few (suc glyph) step n (and_parts (is_broken font (suc glyph) step n) _ is).0

pub earlier_reports_have_no_later_rule : EarlierReportsHaveNoLaterRule
earlier_reports_have_no_later_rule font waivers faults none report = λ i d less.
    told_few font last_number_before (omega arith)
    (λ n key index. earlier_editions_know_no_later_rule font.edition none n font.value key index)
    (λ n before step broken. earlier_editions_break_no_later_rule font.edition none font.value n before step
    (subst (λ (rules : List StepRule). breaks rules n before step ≡ true) (early_rules font (latest_are_later font.edition none)) broken))
    waivers _ _ _ (report.violations i d less).violated

pub first_three_report_no_latest_rule : FirstThreeReportNoLatestRule
first_three_report_no_latest_rule font waivers faults none report = λ i d less.
    told_few font last_number_of_third (omega arith)
    (λ n key index. first_three_know_no_latest_rule font.edition none n font.value key index)
    (λ n before step broken. first_three_break_no_latest_rule font.edition none font.value n before step
    (subst (λ (rules : List StepRule). breaks rules n before step ≡ true) (early_rules font none) broken))
    waivers _ _ _ (report.violations i d less).violated

-- ---- two editions that agree up to a number

module _ (most : ℕ) (older newer : Edition) (limits : limit_of newer ≡ limit_of older)
    (of_fonts : (n : ℕ) (font : FontValue) (key index : ℕ) → n ≤ most → violated (font_rules newer) n font key index ≡ violated (font_rules older) n font key index)
    (of_steps : (font : FontValue) (n : ℕ) (before : List StepView) (step : StepView) → n ≤ most
    → breaks (rules_of (checked font newer)) n before step ≡ breaks (rules_of (checked font older)) n before step) where
  module _ (font : FontValue) where
    next_same : (n : ℕ) (before : List StepView) (step : Option StepView) → n ≤ most
        → breaks_next (rules_of (checked font newer)) n before step ≡ breaks_next (rules_of (checked font older)) n before step
    next_same n before None few = refl
    next_same n before (Some step) few = of_steps font n before step few

    step_same : (n : ℕ) (steps : List StepView) (i : ℕ) → n ≤ most
        → step_breaks (limit_of newer) (rules_of (checked font newer)) n steps i ≡ step_breaks (limit_of older) (rules_of (checked font older)) n steps i
    step_same n steps i few =
        ap (λ b. if nat_lt i (limit_of newer) then b else (i == limit_of newer && nat_lt i (length steps)) && number_of L01 == n)
        (next_same n (take i steps) (slice_get steps i) few)
        ∙ ap (λ l. if nat_lt i l then breaks_next (rules_of (checked font older)) n (take i steps) (slice_get steps i)
        else (i == l && nat_lt i (length steps)) && number_of L01 == n) limits

    broken_same : (unit step n : ℕ) → n ≤ most → is_broken (checked font newer) unit step n ≡ is_broken (checked font older) unit step n
    unfolding is_broken
    broken_same zero step n few = of_fonts n font (step / index_count) (step % index_count) few
    broken_same (suc glyph) zero n few = refl
    broken_same (suc glyph) (suc i) n few = ap (λ b. nat_lt glyph (length font.glyphs) && b) (step_same n (steps_of font glyph) i few)

    used_same : (w : Waiver) → number_of w.1 ≤ most → is_used (checked font newer) w ≡ is_used (checked font older) w
    used_same w few = go (glyph_named font w.0)
      where
        go : (found : Option ℕ) → is_used_by (checked font newer) (number_of w.1) found ≡ is_used_by (checked font older) (number_of w.1) found
        go None = refl
        go (Some glyph) =
            below_same (checked font newer) (checked font older) (suc glyph) (number_of w.1) (λ s. broken_same (suc glyph) s (number_of w.1) few)
            (limit_of newer + 2)
            ∙ ap (λ l. is_broken_below (checked font older) (suc glyph) (l + 2) (number_of w.1)) limits

    module _ (waivers : List Waiver) (early : AreUpTo most waivers) where
      unused_same : (step n : ℕ) → tells_unused (checked font newer) waivers step n ≡ tells_unused (checked font older) waivers step n
      unused_same zero n = refl
      unused_same (suc i) n = ap (λ b. number_of U01 == n && b) (go (slice_get waivers i) refl)
        where
          go : (w : Option Waiver) → slice_get waivers i ≡ w → is_unused (checked font newer) w ≡ is_unused (checked font older) w
          go None is = refl
          go (Some w) is = ap not (used_same w (early i w is))

      told_same : (unit step n : ℕ) → n ≤ most → is_told (checked font newer) waivers unit step n ≡ is_told (checked font older) waivers unit step n
      unfolding is_told
      told_same zero step n few = broken_same 0 step n few
      told_same (suc glyph) step n few = go (glyph == length font.glyphs)
        where
          left : Bool
          left = not (is_waived waivers (glyph_name font glyph) n)

          go : (b : Bool) → (if b then tells_unused (checked font newer) waivers step n else is_broken (checked font newer) (suc glyph) step n && left)
              ≡ (if b then tells_unused (checked font older) waivers step n else is_broken (checked font older) (suc glyph) step n && left)
          go true = unused_same step n
          go false = ap (λ b. b && left) (broken_same (suc glyph) step n few)

  report_the_same : ReportTheSame most older newer
  report_the_same font waivers before after early of_older of_newer =
      same_left (IsTold (checked font older) waivers) (IsTold (checked font newer) waivers) (path_at (checked font older)) (is_up_to most) (is_up_to most)
      before after of_older of_newer
      (λ p told few. (same p few ∙ told, few)) (λ p told few. (sym (same p few) ∙ told, few))
    where
      same : (p : Place) → is_up_to most p ≡ true
          → is_told (checked font newer) waivers p.unit p.step (number_of p.rule) ≡ is_told (checked font older) waivers p.unit p.step (number_of p.rule)
      same p few = told_same font waivers early p.unit p.step (number_of p.rule) (leb-true (number_of p.rule) most few)

pub third_reports_as_the_second : ThirdReportsAsTheSecond
third_reports_as_the_second =
    report_the_same last_number_before Two Three refl
    (λ n font key index few. later_rules_change_no_other Three n font key index few ∙ sym (later_rules_change_no_other Two n font key index few))
    (λ font n before step few.
    ap (λ (rules : List StepRule). breaks rules n before step) (early_rules (checked font Three) refl) ∙ third_agrees_with_second font n before step few
    ∙ sym (ap (λ (rules : List StepRule). breaks rules n before step) (early_rules (checked font Two) refl)))

-- The rules on the drawing come last.
fourth_breaks : (font : FontValue) (n : ℕ) (before : List StepView) (step : StepView) → n ≤ last_number_of_third
    → breaks (rules_of (checked font Four)) n before step ≡ breaks (rules_in Four font) n before step
unfolding rules_of
fourth_breaks font n before step few =
    breaks_both Four (components_of (limit_of Four) font) (box_of font) n before step
    ∙ ap (λ b. breaks (rules_in Four font) n before step || b) (none (breaks (drawing_rules (box_of font)) n before step) refl)
    ∙ or-false (breaks (rules_in Four font) n before step)
  where
    none : (b : Bool) → breaks (drawing_rules (box_of font)) n before step ≡ b → b ≡ false
    none false is = refl
    none true is = absurd (omega (arith, few, (drawing_rules_come_last (box_of font) n before step is).0))

pub fourth_reports_as_the_third : FourthReportsAsTheThird
fourth_reports_as_the_third =
    report_the_same last_number_of_third Three Four refl fourth_agrees_with_third
    (λ font n before step few.
    fourth_breaks font n before step few ∙ fourth_breaks_as_the_third font n before step few
    ∙ sym (ap (λ (rules : List StepRule). breaks rules n before step) (early_rules (checked font Three) refl)))
