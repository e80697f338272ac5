-- The text of waivers that is written of a report is read as these.
use Rattle.std.proofs.Common.{◌≡◌, ◌<◌, ℕ, zero, suc, ◌+◌, ◌-◌, ◌==◌, ◌&&◌, ◌||◌, ◌≤◌, ◌⊎◌, Bool, true, false, true≢false, nat_le, nat_lt, Option, Some, None, List, [], ◌∷◌, filter, length, map, get_or, slice_get, inl, inr, refl, sym, ap, subst, ◌∙◌, arith}
use Rattle.std.proofs.Math.Bool.{or-true}
use Rattle.std.proofs.lemmas.Bool.{and_parts, cases_Bool, eqb-true, le-leb, or_cases}
use Rattle.std.specs.List.{All, AllByRecursion, list_all}
use Rattle.t1_char.specs.Steps.{StepView, steps_of}
use Rattle.t1_char.specs.declared.edition.Edition.{Edition}
use Rattle.t1_char.specs.Editions.{has_later_rules, has_latest_rules}
use Rattle.t1_drawing.specs.declared.font_box.FontBox.{FontBox}
use Rattle.t1_drawing.specs.DrawingRules.{box_of, drawing_rules}
use Rattle.t1_drawing.proofs.RuleNumbers.{drawing_rules_come_last}
use Rattle.t1_font.specs.Fonts.{FontValue, glyph_name, name_in}
use Rattle.t1_lines.specs.Lines.{FaultLineValue, IsFaultLine, at_step, line_in}
use Rattle.t1_lines.specs.Names.{HasNames}
use Rattle.t1_many.proofs.WaiversRead.{written_are_read}
use Rattle.t1_many.specs.Laws.{CanBeWaived}
use Rattle.t1_many.specs.Verdicts.{told_faults}
use Rattle.t1_many.specs.WrittenWaivers.{waivers_behind, waivers_text}
use Rattle.t1_report.proofs.Broken.{breaks_both}
use Rattle.t1_report.proofs.Told.{told_in_glyph, told_within}
use Rattle.t1_report.specs.Checked.{CheckedFont, step_limit}
use Rattle.t1_report.specs.Faults.{FaultValue}
use Rattle.t1_report.specs.Reports.{is_broken, is_told, rules_of, rules_with, step_breaks}
use Rattle.t1_report.specs.Waivers.{Waiver, is_waivable, waivers_of, with_waiver}
use Rattle.t1_rules.specs.Book.{number_of}
use Rattle.t1_rules.specs.Components.{components_of}
use Rattle.t1_rules.specs.Mask.{has}
use Rattle.t1_rules.specs.StepRules.{breaks, breaks_next, charstring_rules, component_rules, step_rules}
use Rattle.t1_rules.specs.declared.sidebearings.Component.{Component}
use Rattle.t1_rules.specs.declared.mask.Mask.{Mask}
use Rattle.t1_rules.specs.declared.rule.Rule.{Rule}
use Rattle.t1_rules.specs.declared.rule.Rule.TheVariants.{L01}
use Rattle.t1_rules.proofs.Lemmas.Editions.{all_rules}
use Rattle.t1_rules.proofs.Lemmas.StepRules.{broken_have_these_numbers, number_between}
use Rattle.t1_scan.specs.Bytes.{is_regular}
use Rattle.t1_waiving.proofs.WrittenOnce.{glyph_bounds, place_in_glyph, place_outside}
use Rattle.t1_waiving.specs.GlyphLines.{is_in_glyph}
use Rattle.t1_waiving.specs.Laws.{WrittenTextsAreRead}
use Rattle.t1_waiving.specs.Private.Written.{waiver_at}
use Rattle.t1_waiving.specs.Reports.{report_waivers}

-- ---- what a step of a glyph breaks can be waived

-- Each of these numbers is one of a rule that an edition waives.
of_steps : (edition : Edition) (rule : Rule)
    → ((26 ≤ number_of rule) × (number_of rule ≤ 67)) ⊎ ((has_later_rules edition ≡ true) × ((86 ≤ number_of rule) × (number_of rule ≤ 93)))
    → is_waivable edition rule ≡ true
of_steps edition rule (inl (least, greatest)) =
    let low : nat_le 26 (number_of rule) ≡ true = le-leb 26 (number_of rule) least in
    let high : nat_le (number_of rule) 69 ≡ true = le-leb (number_of rule) 69 (omega (arith, greatest)) in
    rw (low, high) refl
of_steps edition rule (inr (has, (least, greatest))) =
    let low : nat_le 86 (number_of rule) ≡ true = le-leb 86 (number_of rule) least in
    let high : nat_le (number_of rule) 93 ≡ true = le-leb (number_of rule) 93 greatest in
    rw (has, low, high) (or-true (nat_le 26 (number_of rule) && nat_le (number_of rule) 69))

component_number : (components : List Component) (n : ℕ) (before : List StepView) (step : StepView) → breaks (component_rules components) n before step ≡ true
    → (64 ≤ n) × (n ≤ 68)
unfolding component_rules
component_number components = number_between 64 68 (component_rules components) refl

of_components : (edition : Edition) (rule : Rule) → (64 ≤ number_of rule) × (number_of rule ≤ 68) → is_waivable edition rule ≡ true
of_components edition rule (least, greatest) =
    let low : nat_le 26 (number_of rule) ≡ true = le-leb 26 (number_of rule) (omega (arith, least)) in
    let high : nat_le (number_of rule) 69 ≡ true = le-leb (number_of rule) 69 (omega (arith, greatest)) in
    rw (low, high) refl

of_limit : (edition : Edition) (rule : Rule) → number_of L01 ≡ number_of rule → is_waivable edition rule ≡ true
of_limit edition rule same =
    subst (λ n. (nat_le 26 n && nat_le n 69
    || (has_later_rules edition && (nat_le 86 n && nat_le n 93) || has_latest_rules edition && (nat_le 102 n && nat_le n 112))) ≡ true) same refl

of_drawing : (edition : Edition) (rule : Rule) → has_latest_rules edition ≡ true → (102 ≤ number_of rule) × (number_of rule ≤ 112)
    → is_waivable edition rule ≡ true
of_drawing edition rule has (least, greatest) =
    let low : nat_le 102 (number_of rule) ≡ true = le-leb 102 (number_of rule) least in
    let high : nat_le (number_of rule) 112 ≡ true = le-leb (number_of rule) 112 greatest in
    let first = nat_le 26 (number_of rule) && nat_le (number_of rule) 69 in
    rw (has, low, high)
    (ap (λ b. first || b) (or-true (has_later_rules edition && (nat_le 86 (number_of rule) && nat_le (number_of rule) 93))) ∙ or-true first)

module _ (edition : Edition) (components : List Component) (box : Option FontBox) (rule : Rule) where
  charstrings_waivable : (before : List StepView) (step : StepView) → breaks (charstring_rules edition components) (number_of rule) before step ≡ true
      → is_waivable edition rule ≡ true
  charstrings_waivable before step is =
      elim (or_cases (breaks (step_rules edition) (number_of rule) before step) (breaks (component_rules components) (number_of rule) before step)
      (sym (all_rules edition components (number_of rule) before step) ∙ is)) [
        | inl own ↦ of_steps edition rule (broken_have_these_numbers edition (number_of rule) before step own)
        | inr other ↦ of_components edition rule (component_number components (number_of rule) before step other)
      ]

  breaks_waivable : (before : List StepView) (step : StepView) → breaks (rules_with edition components box) (number_of rule) before step ≡ true
      → is_waivable edition rule ≡ true
  breaks_waivable before step is =
      elim (or_cases (breaks (charstring_rules edition components) (number_of rule) before step)
      (has_latest_rules edition && breaks (drawing_rules box) (number_of rule) before step)
      (sym (breaks_both edition components box (number_of rule) before step) ∙ is)) [
        | inl charstring ↦ charstrings_waivable before step charstring
        | inr drawn ↦
            let parts = and_parts (has_latest_rules edition) (breaks (drawing_rules box) (number_of rule) before step) drawn in
            of_drawing edition rule parts.0 (drawing_rules_come_last box (number_of rule) before step parts.1)
      ]

  next_waivable : (before : List StepView) (step : Option StepView) → breaks_next (rules_with edition components box) (number_of rule) before step ≡ true
      → is_waivable edition rule ≡ true
  next_waivable before None is = absurd (true≢false (sym is))
  next_waivable before (Some step) is = breaks_waivable before step is

  step_broken : (limit : ℕ) (steps : List StepView) (i : ℕ) → step_breaks limit (rules_with edition components box) (number_of rule) steps i ≡ true
      → is_waivable edition rule ≡ true
  step_broken limit steps i is = elim (cases_Bool (nat_lt i limit)) [
    | inl before ↦ next_waivable _ (slice_get steps i) (rw before at is)
    | inr past ↦
        let last : ((i == limit && nat_lt i (length steps)) && number_of L01 == number_of rule) ≡ true = rw past at is in
        of_limit edition rule (eqb-true (number_of L01) (number_of rule) (and_parts _ _ last).1)
  ]

broken_waivable : (font : CheckedFont) (glyph step : ℕ) (rule : Rule) → is_broken font (suc glyph) step (number_of rule) ≡ true → is_waivable font.edition rule ≡ true
unfolding is_broken rules_of
broken_waivable font glyph zero rule is = absurd (true≢false (sym is))
broken_waivable font glyph (suc i) rule is =
    step_broken font.edition (components_of (step_limit font) font.value) (box_of font.value) rule (step_limit font) (steps_of font.value glyph) i (and_parts _ _ is).1

-- ---- the lines of glyphs, each with its glyph and its rule alone

abbrev stand_in : FontValue → FaultValue → FaultLineValue
stand_in font fault = record { number = 0; place = at_step (glyph_name font (fault.unit - 1)) [] 0; rule = fault.rule }

abbrev glyph_faults : Mask → FontValue → List FaultValue → List FaultValue
glyph_faults rules font faults = filter (λ fault. has rules (number_of fault.rule) && is_in_glyph font fault) faults

module _ (rules : Mask) (edition : Edition) (font : FontValue) where
  same_waivers : (faults : List FaultValue) (so_far : List Waiver) → waivers_behind so_far (map (line_in font []) (told_faults rules faults))
      ≡ waivers_behind so_far (map (stand_in font) (glyph_faults rules font faults))
  same_waivers [] so_far = refl
  same_waivers (f ∷ faults) so_far = elim (cases_Bool (has rules (number_of f.rule))) [
    | inr left ↦ rw left (same_waivers faults so_far)
    | inl told ↦ elim (cases_Bool (is_in_glyph font f)) [
      | inl in_glyph ↦
          rw (told, in_glyph) (ap (λ (ws : List Waiver). waivers_behind ws (map (line_in font []) (told_faults rules faults)))
          (place_in_glyph font [] so_far f in_glyph) ∙ same_waivers faults (with_waiver so_far (waiver_at font f)))
      | inr out ↦
          rw (told, out) (ap (λ (ws : List Waiver). waivers_behind ws (map (line_in font []) (told_faults rules faults)))
          (place_outside font [] so_far f out) ∙ same_waivers faults so_far)
    ]
  ]

  -- A glyph's name is regular, and the rule can be waived.
  record Fits (fault : FaultValue) : Type 0 where
    pub name : list_all is_regular (glyph_name font (fault.unit - 1)) ≡ true
    pub rule : is_waivable edition fault.rule ≡ true

  can_be_waived : (faults : List FaultValue)
      → ((fault : FaultValue) (k : ℕ) → k < length faults → get_or faults k fault ≡ fault → is_in_glyph font fault ≡ true → Fits fault)
      → AllByRecursion (λ (l : FaultLineValue). IsFaultLine l × CanBeWaived edition l.place l.rule) (map (stand_in font) (glyph_faults rules font faults))
  can_be_waived [] each = tt
  can_be_waived (f ∷ faults) each = elim (cases_Bool (has rules (number_of f.rule) && is_in_glyph font f)) [
    | inr out ↦ rw out (can_be_waived faults (λ fault k less at. each fault (suc k) (omega (arith, less)) at))
    | inl both ↦
        let fits = each f 0 (omega arith) refl (and_parts (has rules (number_of f.rule)) (is_in_glyph font f) both).1 in
        rw both (
          (record { number = omega arith; place = (fits.name, omega arith, tt, omega arith) }, fits.rule),
          can_be_waived faults (λ fault k less at. each fault (suc k) (omega (arith, less)) at),
        )
  ]

name_regular : (glyphs : List (List ℕ × List ℕ)) → All (λ (glyph : List ℕ × List ℕ). list_all is_regular glyph.0 ≡ true) glyphs → (k : ℕ) → k < length glyphs
    → list_all is_regular (name_in (slice_get glyphs k)) ≡ true
name_regular [] all k less = absurd (omega (arith, less))
name_regular (g ∷ glyphs) all zero less = all 0 g (omega arith)
name_regular (g ∷ glyphs) all (suc k) less = name_regular glyphs (λ i d lt. all (suc i) d (omega (arith, lt))) k (omega (arith, less))

and_true : (b : Bool) → (b && true) ≡ b
and_true true = refl
and_true false = refl

fits : (rules : Mask) (font : CheckedFont) → HasNames font.value → (fault : FaultValue)
    → is_told font [] fault.unit fault.step (number_of fault.rule) ≡ true → is_in_glyph font.value fault ≡ true → Fits rules font.edition font.value fault
fits rules font names fault told in_glyph =
    let n = number_of fault.rule in
    let bounds = glyph_bounds font.value fault in_glyph (told_within font [] fault.unit fault.step n told) in
    let unit : fault.unit ≡ fault.unit - 1 + 1 = omega (arith, bounds.0) in
    let next : fault.unit ≡ suc (fault.unit - 1) = omega (arith, unit) in
    let there : fault.unit - 1 < length font.value.glyphs = omega (arith, bounds.0, bounds.1) in
    record {
      name = name_regular font.value.glyphs names (fault.unit - 1) there;
      rule = broken_waivable font (fault.unit - 1) fault.step fault.rule (subst (λ (u : ℕ). is_broken font u fault.step n ≡ true) next
          (sym (and_true (is_broken font fault.unit fault.step n)) ∙ sym (told_in_glyph font [] fault.unit (fault.unit - 1) fault.step n unit there) ∙ told));
    }

pub texts_are_read : WrittenTextsAreRead
texts_are_read rules font faults names report =
    let same : report_waivers rules font.value [] faults ≡ waivers_behind [] (map (stand_in font.value) (glyph_faults rules font.value faults)) =
    same_waivers rules font.edition font.value faults [] in
    ap (λ (ws : List Waiver). waivers_of font.edition (waivers_text ws)) same
    ∙ written_are_read font.edition (map (stand_in font.value) (glyph_faults rules font.value faults))
    (can_be_waived rules font.edition font.value faults (λ fault k less at in_glyph. fits rules font names fault
    (subst (λ (x : FaultValue). is_told font [] x.unit x.step (number_of x.rule) ≡ true) at (report.violations k fault less).violated) in_glyph))
    ∙ ap (λ (ws : List Waiver). Some ws) (sym same)
