-- What is left of a report with the waivers that are written of it.
use Rattle.std.proofs.Common.{◌≡◌, ◌≤◌, ◌<◌, ℕ, zero, suc, ◌+◌, ◌-◌, ◌==◌, ◌&&◌, ◌||◌, not, Bool, true, false, true≢false, Some, List, [], ◌∷◌, ◌++◌, length, map, get_or, slice_get, inl, inr, refl, sym, ap, subst, ◌∙◌, arith}
use Rattle.std.proofs.lemmas.Bool.{and_parts, cases_Bool, cases_lt, eq-eqb, lt-ltb}
use Rattle.std.proofs.Math.Bool.{and-false}
use Rattle.std.proofs.lemmas.List.{length-map}
use Rattle.std.proofs.lemmas.List.Sums.{fails_before_first, passes_at_first}
use Rattle.std.specs.List.{AllByRecursion, Any, position_or_len}
use Rattle.t1_font.proofs.Tables.{name_exact}
use Rattle.t1_font.specs.Fonts.{FontValue, glyph_name, name_in}
use Rattle.t1_font.specs.Keys.{same_name}
use Rattle.t1_lines.specs.Lines.{FaultLineValue, PlaceValue, at_key, at_step, at_waiver, line_in, place_in}
use Rattle.t1_many.specs.Verdicts.{told_faults}
use Rattle.t1_many.specs.WrittenWaivers.{waivers_behind, with_place}
use Rattle.t1_report.proofs.HasReport.{quiet_behind}
use Rattle.t1_report.proofs.Told.{some_below, told_in_glyph, told_of_waiver, told_within}
use Rattle.t1_report.specs.Checked.{CheckedFont, step_limit}
use Rattle.t1_report.specs.Faults.{FaultValue}
use Rattle.t1_report.specs.Laws.WaivedFaults.{HasNoNameTwice}
use Rattle.t1_report.specs.Reports.{Place, StandsAt, is_broken, is_told, is_unused, is_used, is_used_by, place_of, tells_unused}
use Rattle.t1_report.specs.Waivers.{Waiver, is_waived, with_waiver}
use Rattle.t1_rules.specs.Book.{number_of}
use Rattle.t1_rules.specs.Components.{glyph_named}
use Rattle.t1_rules.specs.Mask.{has}
use Rattle.t1_rules.specs.declared.mask.Mask.{Mask}
use Rattle.t1_rules.specs.declared.rule.Rule.{Rule}
use Rattle.t1_rules.specs.declared.rule.Rule.TheVariants.{U01}
use Rattle.t1_waiving.proofs.WrittenOnce.{glyph_bounds, place_in_glyph, place_outside, waived-push}
use Rattle.t1_waiving.specs.GlyphLines.{is_in_glyph}
use Rattle.t1_waiving.specs.Laws.{NoGlyphLineIsLeft, NoWaiverIsUnused}
use Rattle.t1_waiving.specs.Private.Written.{waiver_at}
use Rattle.t1_waiving.specs.Reports.{report_waivers}

-- ---- what is waived stays so

or_true : (b : Bool) → (b || true) ≡ true
or_true true = refl
or_true false = refl

waived_still : (waivers : List Waiver) (w : Waiver) (name : List ℕ) (n : ℕ) → is_waived waivers name n ≡ true → is_waived (with_waiver waivers w) name n ≡ true
waived_still waivers w name n is = waived-push waivers w name n ∙ rw is refl

waived_now : (waivers : List Waiver) (w : Waiver) → is_waived (with_waiver waivers w) w.0 (number_of w.1) ≡ true
waived_now waivers w =
    waived-push waivers w w.0 (number_of w.1)
    ∙ rw (name_exact.same w.0, eq-eqb (number_of w.1) (number_of w.1) refl) (or_true (is_waived waivers w.0 (number_of w.1)))

place_still : (waivers : List Waiver) (place : PlaceValue) (rule : Rule) (name : List ℕ) (n : ℕ) → is_waived waivers name n ≡ true
    → is_waived (with_place waivers place rule) name n ≡ true
place_still waivers (at_key key index) rule name n is = is
place_still waivers (at_step of path step) rule name n is = waived_still waivers (of, rule) name n is
place_still waivers (at_waiver of waived) rule name n is = is

lines_still : (waivers : List Waiver) (lines : List FaultLineValue) (name : List ℕ) (n : ℕ) → is_waived waivers name n ≡ true
    → is_waived (waivers_behind waivers lines) name n ≡ true
lines_still waivers [] name n is = is
lines_still waivers (l ∷ lines) name n is =
    lines_still (with_place waivers l.place l.rule) lines name n (place_still waivers l.place l.rule name n is)

-- ---- each fault in a glyph is waived

module _ (rules : Mask) (font : FontValue) where
  behind : List Waiver → List FaultValue → List Waiver
  behind so_far faults = waivers_behind so_far (map (line_in font []) (told_faults rules faults))

  waived_by : (fault : FaultValue) → has rules (number_of fault.rule) ≡ true → is_in_glyph font fault ≡ true → (faults : List FaultValue) (so_far : List Waiver)
      (k : ℕ) → k < length faults → get_or faults k fault ≡ fault
      → is_waived (behind so_far faults) (glyph_name font (fault.unit - 1)) (number_of fault.rule) ≡ true
  unfolding behind
  waived_by fault told in_glyph [] so_far k less at = absurd (omega (arith, less))
  waived_by fault told in_glyph (f ∷ faults) so_far zero less at =
      subst (λ (g : FaultValue). is_waived (waivers_behind so_far (map (line_in font []) (told_faults rules (g ∷ faults))))
      (glyph_name font (fault.unit - 1)) (number_of fault.rule) ≡ true) (sym at)
      (rw told (lines_still (with_place so_far (place_in font [] fault) fault.rule) (map (line_in font []) (told_faults rules faults)) _ _
      (rw (place_in_glyph font [] so_far fault in_glyph) (waived_now so_far (waiver_at font fault)))))
  waived_by fault told in_glyph (f ∷ faults) so_far (suc k) less at = elim (cases_Bool (has rules (number_of f.rule))) [
    | inl is ↦ rw is (waived_by fault told in_glyph faults (with_place so_far (place_in font [] f) f.rule) k (omega (arith, less)) at)
    | inr out ↦ rw out (waived_by fault told in_glyph faults so_far k (omega (arith, less)) at)
  ]

and_true : (b : Bool) → (b && true) ≡ b
and_true true = refl
and_true false = refl

pub no_glyph_line : NoGlyphLineIsLeft
unfolding behind
no_glyph_line rules font broken told without with_waivers i d less =
    let fault = get_or told i d in
    let waivers = report_waivers rules font.value [] broken in
    let violated = (with_waivers.violations i d less).violated in
    let within = told_within font waivers fault.unit fault.step (number_of fault.rule) violated in
    elim (cases_Bool (has rules (number_of fault.rule) && is_in_glyph font.value fault)) [
      | inr out ↦ out
      | inl both ↦
          let parts = and_parts (has rules (number_of fault.rule)) (is_in_glyph font.value fault) both in
          let bounds = glyph_bounds font.value fault parts.1 within in
          let unit : fault.unit ≡ fault.unit - 1 + 1 = omega (arith, bounds.0) in
          let there : fault.unit - 1 < length font.value.glyphs = omega (arith, bounds.0, bounds.1) in
          let now = and_parts (is_broken font fault.unit fault.step (number_of fault.rule)) (not (is_waived waivers (glyph_name font.value (fault.unit - 1)) (number_of fault.rule)))
          (sym (told_in_glyph font waivers fault.unit (fault.unit - 1) fault.step (number_of fault.rule) unit there) ∙ violated) in
          let before : is_told font [] fault.unit fault.step (number_of fault.rule) ≡ true =
          told_in_glyph font [] fault.unit (fault.unit - 1) fault.step (number_of fault.rule) unit there
          ∙ and_true (is_broken font fault.unit fault.step (number_of fault.rule)) ∙ now.0 in
          absurd (found rules font.value broken (place_of fault) parts.0 parts.1 (without.complete (place_of fault) before) now.1)
    ]
  where
    found : (rules : Mask) (font : FontValue) (broken : List FaultValue) (p : Place) → has rules (number_of p.rule) ≡ true
        → (not (p.unit == 0) && not (p.unit == length font.glyphs + 1)) ≡ true → Any (StandsAt p) broken
        → not (is_waived (report_waivers rules font [] broken) (glyph_name font (p.unit - 1)) (number_of p.rule)) ≡ true → ⊥
    found rules font broken p told in_glyph (k, x, less, at, stands) left =
        let rule : x.rule ≡ p.rule = ap (λ (q : Place). q.rule) stands in
        let unit : x.unit ≡ p.unit = ap (λ (q : Place). q.unit) stands in
        let waived = waived_by rules font x (ap (λ (r : Rule). has rules (number_of r)) rule ∙ told)
        (ap (λ (u : ℕ). not (u == 0) && not (u == length font.glyphs + 1)) unit ∙ in_glyph) broken [] k less at in
        let here : is_waived (report_waivers rules font [] broken) (glyph_name font (p.unit - 1)) (number_of p.rule) ≡ true =
        subst (λ (q : Place). is_waived (report_waivers rules font [] broken) (glyph_name font (q.unit - 1)) (number_of q.rule) ≡ true) stands waived in
        true≢false (sym left ∙ ap not here)

-- ---- each waiver that is written is used

name_at : (glyphs : List (List ℕ × List ℕ)) (place : ℕ) (d : List ℕ) → place < length glyphs
    → get_or (map (λ glyph. glyph.0) glyphs) place d ≡ name_in (slice_get glyphs place)
name_at [] place d less = absurd (omega (arith, less))
name_at (g ∷ gs) zero d less = refl
name_at (g ∷ gs) (suc place) d less = name_at gs place d (omega (arith, less))

-- A glyph is found by its name, where no other has that.
named : (font : FontValue) → HasNoNameTwice font → (glyph : ℕ) → glyph < length font.glyphs → glyph_named font (glyph_name font glyph) ≡ Some glyph
named font once glyph there =
    let name = glyph_name font glyph in
    let names = map (λ (g : List ℕ × List ℕ). g.0) font.glyphs in
    let count : length names ≡ length font.glyphs = length-map font.glyphs (λ (g : List ℕ × List ℕ). g.0) in
    let place = position_or_len (same_name name) names in
    let first : place ≤ glyph = elim (cases_lt glyph place) [
      | inl before ↦ absurd (true≢false (sym (ap (same_name name) (name_at font.glyphs glyph [] there) ∙ name_exact.same name)
          ∙ fails_before_first (same_name name) names glyph [] before))
      | inr late ↦ late
    ] in
    let within : place < length font.glyphs = omega (arith, first, there) in
    let within_names : place < length names = omega (arith, within, count) in
    let same : name ≡ glyph_name font place =
    name_exact.exact name (get_or names place []) (passes_at_first (same_name name) names [] within_names) ∙ name_at font.glyphs place [] within in
    let some : glyph_named font name ≡ Some place = rw (lt-ltb place (length names) within_names) refl in
    some ∙ ap (λ (g : ℕ). Some g) (sym (once glyph place there within same))

module _ (font : CheckedFont) where
  used : HasNoNameTwice font.value → (fault : FaultValue) → is_told font [] fault.unit fault.step (number_of fault.rule) ≡ true
      → is_in_glyph font.value fault ≡ true → is_used font (waiver_at font.value fault) ≡ true
  used once fault told in_glyph =
      let n = number_of fault.rule in
      let within = told_within font [] fault.unit fault.step n told in
      let bounds = glyph_bounds font.value fault in_glyph within in
      let glyph = fault.unit - 1 in
      let unit : fault.unit ≡ glyph + 1 = omega (arith, bounds.0) in
      let next : fault.unit ≡ suc glyph = omega (arith, unit) in
      let there : glyph < length font.value.glyphs = omega (arith, bounds.0, bounds.1) in
      let broken : is_broken font (suc glyph) fault.step n ≡ true =
      subst (λ (u : ℕ). is_broken font u fault.step n ≡ true) next
      (sym (and_true (is_broken font fault.unit fault.step n)) ∙ sym (told_in_glyph font [] fault.unit glyph fault.step n unit there) ∙ told) in
      let less : fault.step < step_limit font + 2 = elim (cases_lt fault.step (step_limit font + 2)) [
        | inl less ↦ less
        | inr past ↦ absurd (true≢false (sym broken ∙ quiet_behind font glyph fault.step fault.rule past))
      ] in
      ap (is_used_by font n) (named font.value once glyph there) ∙ some_below font (suc glyph) (step_limit font + 2) n fault.step less broken

  AreUsed : List Waiver → Type 0
  AreUsed waivers = AllByRecursion (λ (w : Waiver). is_used font w ≡ true) waivers

  used_push : (waivers : List Waiver) (w : Waiver) → AreUsed waivers → is_used font w ≡ true → AreUsed (waivers ++ w ∷ [])
  unfolding AreUsed
  used_push [] w all is = (is, tt)
  used_push (v ∷ waivers) w (first, rest) is = (first, used_push waivers w rest is)

  used_with : (waivers : List Waiver) (w : Waiver) → AreUsed waivers → is_used font w ≡ true → AreUsed (with_waiver waivers w)
  used_with waivers w all is = elim (cases_Bool (is_waived waivers w.0 (number_of w.1))) [
    | inl there ↦ rw there all
    | inr new ↦ rw new (used_push waivers w all is)
  ]

  module _ (rules : Mask) where
    all_used : (faults : List FaultValue) (so_far : List Waiver) → AreUsed so_far
        → ((fault : FaultValue) (k : ℕ) → k < length faults → get_or faults k fault ≡ fault → is_in_glyph font.value fault ≡ true
        → is_used font (waiver_at font.value fault) ≡ true)
        → AreUsed (waivers_behind so_far (map (line_in font.value []) (told_faults rules faults)))
    all_used [] so_far all each = all
    all_used (f ∷ faults) so_far all each = elim (cases_Bool (has rules (number_of f.rule))) [
      | inl is ↦ rw is (all_used faults (with_place so_far (place_in font.value [] f) f.rule) (elim (cases_Bool (is_in_glyph font.value f)) [
        | inl in_glyph ↦
            subst AreUsed (sym (place_in_glyph font.value [] so_far f in_glyph))
            (used_with so_far (waiver_at font.value f) all (each f 0 (omega arith) refl in_glyph))
        | inr out ↦ subst AreUsed (sym (place_outside font.value [] so_far f out)) all
      ]) (λ fault k less at. each fault (suc k) (omega (arith, less)) at))
      | inr out ↦ rw out (all_used faults so_far all (λ fault k less at. each fault (suc k) (omega (arith, less)) at))
    ]

  none_at : (waivers : List Waiver) (i : ℕ) → AreUsed waivers → is_unused font (slice_get waivers i) ≡ false
  unfolding AreUsed
  none_at [] i all = refl
  none_at (w ∷ waivers) zero (first, rest) = ap not first
  none_at (w ∷ waivers) (suc i) (first, rest) = none_at waivers i rest

  none_told : (waivers : List Waiver) (step n : ℕ) → AreUsed waivers → tells_unused font waivers step n ≡ false
  none_told waivers zero n all = refl
  none_told waivers (suc i) n all = ap (λ (b : Bool). number_of U01 == n && b) (none_at waivers i all) ∙ and-false (number_of U01 == n)

pub none_unused : NoWaiverIsUnused
unfolding AreUsed
none_unused rules font broken told once without with_waivers i d less =
    let fault = get_or told i d in
    let waivers = report_waivers rules font.value [] broken in
    let violated = (with_waivers.violations i d less).violated in
    let within = told_within font waivers fault.unit fault.step (number_of fault.rule) violated in
    elim (cases_lt (length font.value.glyphs) fault.unit) [
      | inr before ↦ before
      | inl past ↦
          let unit : fault.unit ≡ length font.value.glyphs + 1 = omega (arith, past, within) in
          let all = all_used font rules broken [] tt (λ b k within_broken at in_glyph.
          used font once b (subst (λ (x : FaultValue). is_told font [] x.unit x.step (number_of x.rule) ≡ true) at
          (without.violations k b within_broken).violated) in_glyph) in
          absurd (true≢false (sym violated ∙ told_of_waiver font waivers fault.unit fault.step (number_of fault.rule) unit
          ∙ none_told font waivers fault.step (number_of fault.rule) all))
    ]
