-- Where a font has the same report in both editions, and that one without a fault in the first has none in the second.
use Rattle.std.proofs.Common.{◌≡◌, ℕ, zero, suc, ◌+◌, ◌<◌, ◌≤◌, ◌==◌, ◌&&◌, ◌||◌, not, nat_lt, if◌then◌else◌, Bool, true, false, Option, Some, None, List, [], ◌∷◌, length, map, take, slice_get, refl, sym, subst, ap, ◌∙◌, inl, inr, arith}
use Rattle.std.specs.List.{list_any, slice_index_or}
use Rattle.std.proofs.Math.Bool.{and-false}
use Rattle.std.proofs.lemmas.Bool.{and_parts, cases_lt, ltb-true, true≢false}
use Rattle.std.proofs.lemmas.Bool.Decides.{nat_tests}
use Rattle.std.proofs.lemmas.List.Quantifiers.{position-Some}
use Rattle.std.proofs.lemmas.Option.{slice_get_cases}
use Rattle.t1_char.specs.declared.edition.Edition.TheVariants.{One, Two}
use Rattle.t1_char.specs.Editions.{has_latest_rules, limit_of}
use Rattle.t1_char.specs.Steps.{StepView, steps_of}
use Rattle.t1_font.specs.Fonts.{FontValue, glyph_name}
use Rattle.t1_font.specs.Keys.{same_name}
use Rattle.t1_rules.specs.declared.rule.Rule.TheVariants.{L01, U01}
use Rattle.t1_rules.specs.Book.{number_of}
use Rattle.t1_rules.specs.Components.{glyph_named}
use Rattle.t1_rules.specs.Laws.Editions.{HasShortComponents, rules_in, sets_one_edge}
use Rattle.t1_rules.specs.StandardEncoding.{standard_name}
use Rattle.t1_rules.specs.StepRules.{StepRule, breaks, breaks_next}
use Rattle.t1_rules.proofs.Lemmas.Editions.{agree_on_usual_steps, none_taken, second_tells_no_more_in_fonts}
use Rattle.t1_report.specs.Checked.{CheckedFont, checked}
use Rattle.t1_report.specs.Faults.{FaultValue}
use Rattle.t1_report.specs.Laws.Editions.{CleanFontsStayClean, IsUsual, UsualFontsHaveOneReport}
use Rattle.t1_report.specs.Reports.{IsReport, IsTold, Place, is_broken, is_broken_below, is_told, is_unused, is_used, is_used_by, path_at, place_of, rules_of, step_breaks, tells_unused}
use Rattle.t1_report.specs.Waivers.{Waiver, is_waived}
use Rattle.t1_report.proofs.Broken.{early_rules, past_last_step, within_limit}
use Rattle.t1_report.proofs.StepLimit.{are_checked}

-- A glyph that has a name is there.
named_is_there : (font : FontValue) (name : List ℕ) (glyph : ℕ) → glyph_named font name ≡ Some glyph → glyph < length font.glyphs
named_is_there font name glyph is =
    let found : glyph < length (map (λ (g : List ℕ × List ℕ). g.0) font.glyphs) = (position-Some (same_name name) (map (λ g. g.0) font.glyphs) glyph [] is).0 in
    omega (arith, found, names font.glyphs)
  where
    names : (glyphs : List (List ℕ × List ℕ)) → length (map (λ (g : List ℕ × List ℕ). g.0) glyphs) ≡ length glyphs
    names [] = refl
    names (g ∷ gs) = ap (λ (n : ℕ). suc n) (names gs)

short_components : (font : FontValue) → IsUsual font → HasShortComponents font
short_components font usual code glyph letters is = usual.short glyph (named_is_there font (standard_name code) glyph is)

-- ---- a step

-- The step there sets no stem of one edge, where none does.
none_there : (f : StepView → Bool) (steps : List StepView) (place : ℕ) (step : StepView) → list_any f steps ≡ false → slice_get steps place ≡ Some step
    → f step ≡ false
none_there f [] place step none is = let no : None ≡ Some step = is in cc
none_there f (s ∷ ss) zero step none is =
    let same : s ≡ step = cc in
    subst (λ t. f t ≡ false) same (left (f s) (list_any f ss) none)
  where
    left : (a b : Bool) → (a || b) ≡ false → a ≡ false
    left false b e = refl
    left true b e = let no : true ≡ false = e in cc
none_there f (s ∷ ss) (suc place) step none is = none_there f ss place step (right (f s) (list_any f ss) none) is
  where
    right : (a b : Bool) → (a || b) ≡ false → b ≡ false
    right false b e = e
    right true b e = let no : true ≡ false = e in cc

-- Up to the limit a step breaks what the rules say.
by_rules : (font : CheckedFont) → has_latest_rules font.edition ≡ false → (n : ℕ) (steps : List StepView) (i : ℕ) (step : StepView)
    → i < limit_of font.edition → slice_get steps i ≡ Some step
    → step_breaks (limit_of font.edition) (rules_of font) n steps i ≡ breaks (rules_in font.edition font.value) n (take i steps) step
by_rules font early n steps i step within is =
    within_limit (limit_of font.edition) (rules_of font) n steps i within
    ∙ ap (breaks_next (rules_of font) n (take i steps)) is
    ∙ ap (λ (rules : List StepRule). breaks rules n (take i steps) step) (early_rules font early)

step_same : (font : FontValue) → IsUsual font → (glyph : ℕ) → glyph < length font.glyphs → (i n : ℕ)
    → step_breaks (limit_of Two) (rules_of (checked font Two)) n (steps_of font glyph) i ≡ step_breaks (limit_of One)
    (rules_of (checked font One)) n (steps_of font glyph) i
step_same font usual glyph there i n =
    let steps : List StepView = steps_of font glyph in
    elim (slice_get_cases steps i).1 [
      | inr (past, none) ↦ past_last_step (limit_of Two) (rules_of (checked font Two)) n steps i past
          ∙ sym (past_last_step (limit_of One) (rules_of (checked font One)) n steps i past)
      | inl (step, less, is, at) ↦
          let few : length steps ≤ 100000 = usual.short glyph there in
          by_rules (checked font Two) refl n steps i step (omega (arith, less, few)) is
          ∙ agree_on_usual_steps font (short_components font usual) n (take i steps) step (none_taken sets_one_edge steps i (usual.wide glyph there))
          (none_there sets_one_edge steps i step (usual.wide glyph there) is)
          ∙ sym (by_rules (checked font One) refl n steps i step (omega (arith, less, few)) is)
    ]

broken_same : (font : FontValue) → IsUsual font → (unit step n : ℕ) → is_broken (checked font Two) unit step n ≡ is_broken (checked font One) unit step n
unfolding is_broken
broken_same font usual zero step n = refl
broken_same font usual (suc glyph) zero n = refl
broken_same font usual (suc glyph) (suc i) n = go (nat_lt glyph (length font.glyphs)) refl
  where
    steps : List StepView
    steps = steps_of font glyph

    go : (b : Bool) → nat_lt glyph (length font.glyphs) ≡ b
        → (b && step_breaks (limit_of Two) (rules_of (checked font Two)) n steps i)
        ≡ (b && step_breaks (limit_of One) (rules_of (checked font One)) n steps i)
    go true there = step_same font usual glyph (ltb-true glyph (length font.glyphs) there) i n
    go false none = refl

-- ---- a waiver

-- After a glyph's last step nothing is broken.
past_steps : (font : CheckedFont) (glyph i n : ℕ) → length (steps_of font.value glyph) ≤ i → is_broken font (suc glyph) (suc i) n ≡ false
unfolding is_broken
past_steps font glyph i n past =
    ap (λ (b : Bool). nat_lt glyph (length font.value.glyphs) && b)
    (past_last_step (limit_of font.edition) (rules_of font) n (steps_of font.value glyph) i past)
    ∙ and-false (nat_lt glyph (length font.value.glyphs))

past_last : (font : CheckedFont) (glyph s n : ℕ) → length (steps_of font.value glyph) < s → is_broken font (suc glyph) s n ≡ false
past_last font glyph zero n past = absurd (omega (arith, past))
past_last font glyph (suc i) n past = past_steps font glyph i n (omega (arith, past))

pub below_same : (font other : CheckedFont) (unit n : ℕ) → ((s : ℕ) → is_broken font unit s n ≡ is_broken other unit s n) → (count : ℕ)
    → is_broken_below font unit count n ≡ is_broken_below other unit count n
unfolding is_broken_below
below_same font other unit n same zero = refl
below_same font other unit n same (suc s) = rw (same s, below_same font other unit n same s) refl

below_past : (font : CheckedFont) (unit n count : ℕ) → ((s : ℕ) → count ≤ s → is_broken font unit s n ≡ false) → (more : ℕ)
    → is_broken_below font unit (more + count) n ≡ is_broken_below font unit count n
unfolding is_broken_below
below_past font unit n count none zero = ap (λ s. is_broken_below font unit s n) (let same : 0 + count ≡ count = omega arith in same)
below_past font unit n count none (suc more) =
    let next : suc more + count ≡ suc (more + count) = omega arith in
    let quiet : is_broken font unit (more + count) n ≡ false = none (more + count) (omega arith) in
    ap (λ s. is_broken_below font unit s n) next
    ∙ ap (λ b. b || is_broken_below font unit (more + count) n) quiet
    ∙ below_past font unit n count none more

used_same : (font : FontValue) → IsUsual font → (w : Waiver) → is_used (checked font Two) w ≡ is_used (checked font One) w
used_same font usual w = go (glyph_named font w.0) (λ glyph is. named_is_there font w.0 glyph is)
  where
    n : ℕ
    n = number_of w.1

    go : (found : Option ℕ) → ((glyph : ℕ) → found ≡ Some glyph → glyph < length font.glyphs) → is_used_by (checked font Two) n found
        ≡ is_used_by (checked font One) n found
    go None there = refl
    go (Some glyph) there =
        let few : length (steps_of font glyph) ≤ 100000 = usual.short glyph (there glyph refl) in
        let split : 1000002 ≡ 900000 + 100002 = omega arith in
        ap (λ count. is_broken_below (checked font Two) (suc glyph) count n) split
        ∙ below_past (checked font Two) (suc glyph) n 100002 (λ s past. past_last (checked font Two) glyph s n (omega (arith, few, past))) 900000
        ∙ below_same (checked font Two) (checked font One) (suc glyph) n (λ s. broken_same font usual (suc glyph) s n) 100002

unused_same : (font : FontValue) → IsUsual font → (waivers : List Waiver) (step n : ℕ) → tells_unused (checked font Two) waivers step n ≡ tells_unused
    (checked font One) waivers step n
unused_same font usual waivers zero n = refl
unused_same font usual waivers (suc i) n = ap (λ b. number_of U01 == n && b) (go (slice_get waivers i))
  where
    go : (w : Option Waiver) → is_unused (checked font Two) w ≡ is_unused (checked font One) w
    go None = refl
    go (Some w) = ap not (used_same font usual w)

-- ---- the report

told_same : (font : FontValue) → IsUsual font → (waivers : List Waiver) (unit step n : ℕ) → is_told (checked font Two) waivers unit step n
    ≡ is_told (checked font One) waivers unit step n
unfolding is_told
told_same font usual waivers zero step n = broken_same font usual 0 step n
told_same font usual waivers (suc glyph) step n = go (glyph == length font.glyphs)
  where
    told : Bool
    told = not (is_waived waivers (glyph_name font glyph) n)

    go : (b : Bool) → (if b then tells_unused (checked font Two) waivers step n else is_broken (checked font Two) (suc glyph) step n && told)
        ≡ (if b then tells_unused (checked font One) waivers step n else is_broken (checked font One) (suc glyph) step n && told)
    go true = unused_same font usual waivers step n
    go false = ap (λ b. b && told) (broken_same font usual (suc glyph) step n)

-- What is reported alike makes the same reports.
pub reported_alike : (font other : CheckedFont) (waivers others : List Waiver) (faults : List FaultValue) → ((p : Place) → path_at font p ≡ path_at other p)
    → ((unit step n : ℕ) → is_told font waivers unit step n ≡ is_told other others unit step n) → IsReport font waivers faults → IsReport other others faults
reported_alike font other waivers others faults paths same r = record {
  rising = r.rising;
  violations = λ i d less. record {
    violated = sym (same _ _ _) ∙ (r.violations i d less).violated;
    path = (r.violations i d less).path ∙ paths (place_of (slice_index_or faults i d));
  };
  complete = λ p told. r.complete p (same p.unit p.step (number_of p.rule) ∙ told);
  numbered = r.numbered;
}

pub usual_fonts_have_one_report : UsualFontsHaveOneReport
usual_fonts_have_one_report font usual waivers faults = (
  reported_alike (checked font One) (checked font Two) waivers waivers faults (λ p. refl) (λ unit step n. sym (told_same font usual waivers unit step n)),
  reported_alike (checked font Two) (checked font One) waivers waivers faults (λ p. refl) (told_same font usual waivers),
)

-- ---- a font without a fault

none_told : (font : CheckedFont) → IsReport font [] [] → (p : Place) → IsTold font [] p → ⊥
none_told font report p told = omega (arith, (report.complete p told).2)

-- Of a glyph, where nothing is waived, what is broken is reported.
told_of_glyph : (font : CheckedFont) (glyph step n : ℕ) → glyph < length font.value.glyphs → is_broken font (suc glyph) step n ≡ true
    → is_told font [] (suc glyph) step n ≡ true
unfolding is_told
told_of_glyph font glyph step n there broken =
    let other : (glyph == length font.value.glyphs) ≡ false = grind (arith, nat_tests, there) in
    rw (other, broken) refl

-- A glyph with more steps than the first edition looks at breaks L01.
short_where_clean : (font : FontValue) → IsReport (checked font One) [] [] → (glyph : ℕ) → glyph < length font.glyphs
    → length (steps_of font glyph) ≤ limit_of One
short_where_clean font report glyph there = elim (cases_lt (limit_of One) (length (steps_of font glyph))) [
  | inr few ↦ few
  | inl more ↦
      let is : nat_lt (limit_of One) (length (steps_of font glyph)) ≡ true = grind (arith, nat_tests, more) in
      let broken : is_broken (checked font One) (suc glyph) (suc (limit_of One)) (number_of L01) ≡ true =
      (are_checked One).first_past font glyph (number_of L01) there ∙ rw is refl in
      absurd (none_told (checked font One) report (record { unit = suc glyph; step = suc (limit_of One); rule = L01 })
      (told_of_glyph (checked font One) glyph (suc (limit_of One)) (number_of L01) there broken))
]

module _ (font : FontValue) (clean : IsReport (checked font One) [] []) where
  short_components_there : HasShortComponents font
  short_components_there code glyph letters is = short_where_clean font clean glyph (named_is_there font (standard_name code) glyph is)

  step_more : (glyph : ℕ) → glyph < length font.glyphs → (i n : ℕ)
      → step_breaks (limit_of Two) (rules_of (checked font Two)) n (steps_of font glyph) i ≡ true
      → step_breaks (limit_of One) (rules_of (checked font One)) n (steps_of font glyph) i ≡ true
  step_more glyph there i n broken =
      let steps : List StepView = steps_of font glyph in
      elim (slice_get_cases steps i).1 [
        | inr (past, none) ↦
            absurd (true≢false (sym broken ∙ past_last_step (limit_of Two) (rules_of (checked font Two)) n steps i past))
        | inl (step, less, is, at) ↦
            let few : length steps ≤ 100000 = short_where_clean font clean glyph there in
            by_rules (checked font One) refl n steps i step (omega (arith, less, few)) is
            ∙ second_tells_no_more_in_fonts font short_components_there n (take i steps) step
            (sym (by_rules (checked font Two) refl n steps i step (omega (arith, less, few)) is) ∙ broken)
      ]

  broken_more : (unit step n : ℕ) → is_broken (checked font Two) unit step n ≡ true → is_broken (checked font One) unit step n ≡ true
  unfolding is_broken
  broken_more zero step n broken = broken
  broken_more (suc glyph) zero n broken = broken
  broken_more (suc glyph) (suc i) n broken =
      let parts = and_parts (nat_lt glyph (length font.glyphs)) _ broken in
      rw (parts.0, step_more glyph (ltb-true glyph (length font.glyphs) parts.0) i n parts.1) refl

  told_more : (unit step n : ℕ) → is_told (checked font Two) [] unit step n ≡ true → is_told (checked font One) [] unit step n ≡ true
  unfolding is_told
  told_more zero step n told = broken_more 0 step n told
  told_more (suc glyph) step n told = go (glyph == length font.glyphs) told
    where
      left : Bool
      left = not (is_waived [] (glyph_name font glyph) n)

      waivers_same : (step : ℕ) → tells_unused (checked font Two) [] step n ≡ tells_unused (checked font One) [] step n
      waivers_same zero = refl
      waivers_same (suc i) = refl

      go : (b : Bool) → (if b then tells_unused (checked font Two) [] step n else is_broken (checked font Two) (suc glyph) step n && left) ≡ true
          → (if b then tells_unused (checked font One) [] step n else is_broken (checked font One) (suc glyph) step n && left) ≡ true
      go true unused = sym (waivers_same step) ∙ unused
      go false broken =
          let parts = and_parts (is_broken (checked font Two) (suc glyph) step n) left broken in
          rw (broken_more (suc glyph) step n parts.0, parts.1) refl

pub clean_fonts_stay_clean : CleanFontsStayClean
clean_fonts_stay_clean font clean = record {
  rising = clean.rising;
  violations = λ k d less. absurd (omega (arith, less));
  complete = λ p told. absurd (none_told (checked font One) clean p (told_more font clean p.unit p.step (number_of p.rule) told));
  numbered = clean.numbered;
}
