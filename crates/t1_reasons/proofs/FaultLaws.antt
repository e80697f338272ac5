-- The report's faults and their reasons.
use Rattle.std.proofs.Common.{◌≡◌, ℕ, zero, suc, ◌/◌, ◌%◌, ◌<◌, ◌≤◌, ◌==◌, ◌&&◌, ◌||◌, ◌+◌, ◌-◌, inl, inr, nat_lt, if◌then◌else◌, Bool, true, false, Option, None, Some, is_some, List, length, option_map, slice_get, take, refl, sym, ap, ◌∙◌, arith}
use Rattle.std.proofs.Common.{lt-ltb}
use Rattle.std.proofs.Math.Bool.{and-false, or-false}
use Rattle.std.proofs.lemmas.Bool.{cases_lt, eq-eqb, eqb-true, ltb-false, ltb-true, true≢false}
use Rattle.t1_char.specs.declared.edition.Edition.{Edition}
use Rattle.t1_char.specs.Editions.{has_latest_rules, limit_of}
use Rattle.t1_char.specs.Steps.{StepView, steps_of}
use Rattle.t1_char.specs.Turns.{MachineView}
use Rattle.t1_report.specs.Checked.{CheckedFont, step_limit}
use Rattle.t1_report.specs.Faults.{FaultValue}
use Rattle.t1_report.specs.declared.places.FaultPlace.TheVariants.{Glyph, Waiver as AtWaiver}
use Rattle.t1_report.specs.Reports.{is_broken, is_told, is_unused, rules_of, rules_with, step_breaks, tells_unused}
use Rattle.t1_report.specs.Waivers.{Waiver}
use Rattle.t1_report.proofs.Broken.{breaks_both}
use Rattle.t1_report.proofs.Told.{in_glyph, past_waivers, told_in_font, told_of_waiver}
use Rattle.t1_rules.specs.declared.rule.Rule.{Rule}
use Rattle.t1_rules.specs.declared.rule.Rule.TheVariants.{L01, U01}
use Rattle.t1_rules.specs.declared.sidebearings.Component.{Component}
use Rattle.t1_rules.specs.Book.{last_number_of_third, number_of}
use Rattle.t1_rules.specs.Keys.{index_count}
use Rattle.t1_rules.proofs.Lemmas.Book.{both}
use Rattle.t1_reasons.proofs.FontLaws.{fonts_broken_where_reason}
use Rattle.t1_rules.specs.Components.{components_of}
use Rattle.t1_font.specs.Fonts.{FontValue}
use Rattle.t1_rules.specs.StepRules.{breaks, breaks_at, breaks_next, charstring_rules}
use Rattle.t1_drawing.specs.DrawingRules.{box_of, drawing_rules}
use Rattle.t1_reasons.specs.declared.reason.Reason.{Reason}
use Rattle.t1_reasons.specs.CharstringReasons.{told_of_step}
use Rattle.t1_reasons.specs.FaultReasons.{FaultsHaveReasons, HasReason, IsOf, ReportedPlacesHaveReasons}
use Rattle.t1_reasons.specs.DrawingReasons.{drawing_reason, told_on_drawing}
use Rattle.t1_reasons.specs.GlyphReasons.{glyph_reason, limit_reason, next_reason, reason_among, reason_at, reason_at_place}
use Rattle.t1_reasons.specs.Reported.{ReportedFaultsHaveReasons, fault_reason, place_reason, waiver_reason}
use Rattle.t1_reasons.specs.StepReasons.{step_reason}
use Rattle.t1_reasons.proofs.LawProofs.{broken_where_reason}
use Rattle.t1_reasons.proofs.Walking.{none_on_charstrings, none_on_drawing}

still_some : (f : Reason → Reason) (reason : Option Reason) → is_some (option_map f reason) ≡ is_some reason
still_some f None = refl
still_some f (Some reason) = refl

next_has : (font : FontValue) (glyph : ℕ) (edition : Edition) (components : List Component) (rule : Rule) (before : List StepView) (step : Option StepView)
    → breaks_next (rules_with edition components (box_of font)) (number_of rule) before step ≡ is_some (next_reason font glyph edition components rule before step)
next_has font glyph edition components rule before None = refl
next_has font glyph edition components rule before (Some step) =
    breaks_both edition components (box_of font) (number_of rule) before step ∙ go (nat_lt last_number_of_third (number_of rule)) refl
  where
    drawn : Bool
    drawn = has_latest_rules edition && breaks (drawing_rules (box_of font)) (number_of rule) before step

    told : (b : Bool) → b ≡ is_some (if b then Some (told_on_drawing (box_of font) rule before step) else None)
    told true = refl
    told false = refl

    go : (b : Bool) → nat_lt last_number_of_third (number_of rule) ≡ b
        → (breaks (charstring_rules edition components) (number_of rule) before step || drawn)
        ≡ is_some (if b then drawing_reason edition (box_of font) rule before step
        else option_map (told_of_step font glyph rule step) (step_reason edition components rule before step))
    go true past =
        ap (λ b. b || drawn) (none_on_charstrings edition components (number_of rule) before step (ltb-true last_number_of_third (number_of rule) past))
        ∙ told drawn
    go false few =
        ap (λ b. breaks (charstring_rules edition components) (number_of rule) before step || has_latest_rules edition && b)
        (none_on_drawing (box_of font) (number_of rule) before step (ltb-false last_number_of_third (number_of rule) few))
        ∙ ap (λ b. breaks (charstring_rules edition components) (number_of rule) before step || b) (and-false (has_latest_rules edition))
        ∙ or-false (breaks (charstring_rules edition components) (number_of rule) before step)
        ∙ broken_where_reason edition components rule before step
        ∙ sym (still_some (told_of_step font glyph rule step) (step_reason edition components rule before step))

-- The limit has a rule of its own.
limit_has : (limit : ℕ) (rule : Rule) → (number_of L01 == number_of rule) ≡ is_some (limit_reason limit rule)
limit_has limit L01 = refl
limit_has limit _ = refl

step_has : (limit : ℕ) (font : FontValue) (glyph : ℕ) (edition : Edition) (components : List Component) (rule : Rule) (steps : List StepView) (place : ℕ)
    → step_breaks limit (rules_with edition components (box_of font)) (number_of rule) steps place
    ≡ is_some (reason_among limit font glyph edition components rule steps place)
step_has limit font glyph edition components rule steps place = go (nat_lt place limit)
  where
    at_limit : (b : Bool) → (b && number_of L01 == number_of rule) ≡ is_some (if b then limit_reason limit rule else None)
    at_limit true = limit_has limit rule
    at_limit false = refl

    go : (b : Bool)
        → (if b then breaks_at (rules_with edition components (box_of font)) (number_of rule) steps place
        else (place == limit && nat_lt place (length steps)) && number_of L01 == number_of rule)
        ≡ is_some (if b then reason_at_place font glyph edition components rule steps place
        else (if place == limit && nat_lt place (length steps) then limit_reason limit rule else None))
    go true = next_has font glyph edition components rule (take place steps) (slice_get steps place)
    go false = at_limit (place == limit && nat_lt place (length steps))

broken_is : (font : CheckedFont) (glyph place n : ℕ) → glyph < length font.value.glyphs
    → is_broken font (suc glyph) (suc place) n
    ≡ step_breaks (limit_of font.edition) (rules_with font.edition (components_of (limit_of font.edition) font.value) (box_of font.value)) n (steps_of font.value glyph) place
unfolding is_broken rules_of
broken_is font glyph place n less =
    ap (λ b. b && step_breaks (step_limit font) (rules_of font) n (steps_of font.value glyph) place) (lt-ltb glyph (length font.value.glyphs) less)

glyphs_have_reasons : (font : CheckedFont) (glyph step : ℕ) (rule : Rule) → glyph < length font.value.glyphs
    → is_broken font (suc glyph) step (number_of rule) ≡ is_some (glyph_reason font.value font.edition glyph rule step)
unfolding is_broken
glyphs_have_reasons font glyph zero rule there = refl
glyphs_have_reasons font glyph (suc place) rule there =
    broken_is font glyph place (number_of rule) there
    ∙ step_has (limit_of font.edition) font.value glyph font.edition (components_of (limit_of font.edition) font.value) rule (steps_of font.value glyph) place

reason_is : (font : CheckedFont) (glyph step : ℕ) (rule : Rule) (m : MachineView) → IsOf font glyph m
    → reason_at m rule step ≡ glyph_reason font.value font.edition glyph rule step
reason_is font glyph zero rule m of = refl
reason_is font glyph (suc place) rule m of = rw (of.font_is, of.edition_is, of.glyph_is) refl

pub faults_have_reasons : FaultsHaveReasons
faults_have_reasons font glyph step rule m of =
    glyphs_have_reasons font glyph step rule of.there ∙ ap is_some (sym (reason_is font glyph step rule m of))

broken_in_font : (font : CheckedFont) (step : ℕ) (rule : Rule) → is_broken font zero step (number_of rule) ≡ true → HasReason font zero step rule
unfolding is_broken
broken_in_font font step rule broken = sym (fonts_broken_where_reason font.edition font.value rule (step / index_count) (step % index_count)) ∙ broken

pub reported_places_have_reasons : ReportedPlacesHaveReasons
reported_places_have_reasons font waivers p within told = go p.unit within told
  where
    go : (unit : ℕ) → unit ≤ length font.value.glyphs → is_told font waivers unit p.step (number_of p.rule) ≡ true → HasReason font unit p.step p.rule
    go zero within told = broken_in_font font p.step p.rule (sym (told_in_font font waivers p.step (number_of p.rule)) ∙ told)
    go (suc glyph) within told = λ m of.
        let parts = both (is_broken font (suc glyph) p.step (number_of p.rule)) _ (sym (in_glyph font waivers glyph p.step (number_of p.rule) (omega arith)) ∙ told) in
        sym (faults_have_reasons font glyph p.step p.rule m of) ∙ parts.0

-- ---- each fault of a report

unused_has : (font : CheckedFont) (waivers : List Waiver) (step n : ℕ) → tells_unused font waivers step n ≡ true
    → is_some (waiver_reason font.value (slice_get waivers (step - 1))) ≡ true
unused_has font waivers zero n told = let no : false ≡ true = told in cc
unused_has font waivers (suc i) n told =
    let place : suc i - 1 ≡ i = omega arith in
    rw place (go (slice_get waivers i) (both (number_of U01 == n) (is_unused font (slice_get waivers i)) told).1)
  where
    go : (w : Option Waiver) → is_unused font w ≡ true → is_some (waiver_reason font.value w) ≡ true
    go None unused = let no : false ≡ true = unused in cc
    go (Some w) unused = refl

glyph_has : (font : CheckedFont) (waivers : List Waiver) (glyph step : ℕ) (rule : Rule) → (glyph ≡ length font.value.glyphs → ⊥)
    → is_told font waivers (suc glyph) step (number_of rule) ≡ true → is_some (glyph_reason font.value font.edition glyph rule step) ≡ true
glyph_has font waivers glyph step rule other told = elim (cases_lt glyph (length font.value.glyphs)) [
  | inl there ↦
      let parts = both (is_broken font (suc glyph) step (number_of rule)) _ (sym (in_glyph font waivers glyph step (number_of rule) there) ∙ told) in
      sym (glyphs_have_reasons font glyph step rule there) ∙ parts.0
  | inr not_there ↦ elim (cases_lt (length font.value.glyphs) glyph) [
    | inl past ↦ absurd (true≢false (sym told ∙ past_waivers font waivers (suc glyph) step (number_of rule) (omega (arith, past))))
    | inr not_past ↦ absurd (other (omega (arith, not_there, not_past)))
  ]
]

unit_has : (font : CheckedFont) (waivers : List Waiver) (unit step : ℕ) (rule : Rule) (number : ℕ) (path : List ℕ)
    → is_told font waivers unit step (number_of rule) ≡ true
    → is_some (fault_reason font waivers (record { number = number; unit = unit; step = step; rule = rule; path = path })) ≡ true
unit_has font waivers zero step rule number path told =
    broken_in_font font step rule (sym (told_in_font font waivers step (number_of rule)) ∙ told)
unit_has font waivers (suc glyph) step rule number path told = rw (positive, less) (go (suc glyph == length font.value.glyphs + 1) refl)
  where
    fault : FaultValue
    fault = record { number = number; unit = suc glyph; step = step; rule = rule; path = path }

    positive : (suc glyph == 0) ≡ false
    positive = grind arith

    less : suc glyph - 1 ≡ glyph
    less = omega arith

    go : (b : Bool) → (suc glyph == length font.value.glyphs + 1) ≡ b
        → is_some (place_reason font waivers fault (if b then AtWaiver (step - 1) else Glyph glyph)) ≡ true
    go true same =
        unused_has font waivers step (number_of rule)
        (sym (told_of_waiver font waivers (suc glyph) step (number_of rule) (eqb-true (suc glyph) (length font.value.glyphs + 1) same)) ∙ told)
    go false other =
        glyph_has font waivers glyph step rule
        (λ same. true≢false (sym (eq-eqb (suc glyph) (length font.value.glyphs + 1) (omega (arith, same))) ∙ other)) told

pub reported_faults_have_reasons : ReportedFaultsHaveReasons
reported_faults_have_reasons font waivers fault told = unit_has font waivers fault.unit fault.step fault.rule fault.number fault.path told
