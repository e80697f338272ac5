-- What is broken at a unit and a step: in the font, at the steps of a glyph, and where nothing is.
use Rattle.std.proofs.Common.{◌≡◌, ℕ, zero, suc, ◌+◌, ◌*◌, ◌/◌, ◌%◌, ◌<◌, ◌≤◌, ◌&&◌, ◌||◌, ◌==◌, nat_lt, if◌then◌else◌, Bool, true, false, cond, Option, List, [], ◌∷◌, ◌++◌, length, length-append, take, slice_get, Some, inl, inr, refl, ap, sym, ◌∙◌, arith, rules}
use Rattle.std.proofs.Math.Bool.{and-false, or-false}
use Rattle.std.proofs.Math.Seq.{take-append_seam}
use Rattle.std.proofs.lemmas.Bool.{cases_lt, eq-eqb, ne_eqb}
use Rattle.std.proofs.lemmas.List.{length-take}
use Rattle.std.proofs.lemmas.List.Folds.{list_any-append}
use Rattle.std.proofs.lemmas.Option.{slice_get_past, slice_get_within}
use Rattle.t1_char.specs.declared.edition.Edition.{Edition}
use Rattle.t1_char.specs.Editions.{has_latest_rules}
use Rattle.t1_char.specs.Steps.{StepView, steps_of}
use Rattle.t1_drawing.specs.declared.font_box.FontBox.{FontBox}
use Rattle.t1_drawing.specs.DrawingRules.{box_of, drawing_rules}
use Rattle.t1_font.specs.Fonts.{FontValue}
use Rattle.t1_report.specs.Checked.{CheckedFont, step_limit}
use Rattle.t1_rules.specs.FontRules.{font_rules, violated}
use Rattle.t1_rules.specs.Keys.{index_count, key_count, places_of}
use Rattle.t1_rules.specs.declared.sidebearings.Component.{Component}
use Rattle.t1_rules.specs.Components.{components_of}
use Rattle.t1_rules.specs.declared.rule.Rule.TheVariants.{L01}
use Rattle.t1_rules.specs.Book.{number_of}
use Rattle.t1_rules.specs.StepRules.{StepRule, breaks, breaks_at, breaks_next, charstring_rules, component_rules, step_rules}
use Rattle.t1_rules.specs.Laws.Editions.{rules_in}
use Rattle.t1_rules.proofs.Lemmas.Keys.{past_places}
use Rattle.t1_rules.proofs.Lemmas.Watches.{joined}
use Rattle.t1_rules.proofs.Lemmas.FontRules.{past_last}
use Rattle.t1_report.specs.Reports.{is_broken, path_in, rules_of, rules_with, step_breaks, path_of_step}

-- ---- the font

pub in_font : (font : CheckedFont) (key index n : ℕ) → index < 65536 → is_broken font 0 (65536 * key + index) n ≡ violated (font_rules font.edition) n font.value key index
unfolding is_broken
in_font font key index n few =
    let at : (65536 * key + index) / 65536 ≡ key = omega arith in
    let place : (65536 * key + index) % 65536 ≡ index = omega arith in
    ap (λ (k : ℕ). violated (font_rules font.edition) n font.value k ((65536 * key + index) % 65536)) at ∙ ap (λ (i : ℕ). violated (font_rules font.edition) n font.value key i) place

pub no_path : (font : FontValue) (step : ℕ) → path_in font 0 step ≡ []
unfolding path_in
no_path font step = refl

-- past the places of a key, up to the next key
pub past_key : (font : CheckedFont) (key step n : ℕ) → 65536 * key + places_of font.edition font.value key ≤ step → step < 65536 * (key + 1)
    → is_broken font 0 step n ≡ false
unfolding is_broken
past_key font key step n past less =
    let at : step / 65536 ≡ key = omega arith in
    let beyond : places_of font.edition font.value key ≤ step % 65536 = omega arith in
    ap (λ (k : ℕ). violated (font_rules font.edition) n font.value k (step % 65536)) at ∙ past_places font.edition font.value key (step % 65536) beyond n

-- past the last key
pub past_keys : (font : CheckedFont) (step n : ℕ) → index_count * key_count ≤ step → is_broken font 0 step n ≡ false
unfolding is_broken
past_keys font step n past = past_last font.edition (step / 65536) (omega arith) font.value (step % 65536) n

-- ---- glyphs

less_is : (a b : ℕ) → a < b → nat_lt a b ≡ true
less_is a b less = search rules

not_less : (a b : ℕ) → b ≤ a → nat_lt a b ≡ false
not_less a b more = search rules

by_place : (font : CheckedFont) (glyph i n : ℕ) → glyph < length font.value.glyphs
    → is_broken font (suc glyph) (suc i) n ≡ step_breaks (step_limit font) (rules_of font) n (steps_of font.value glyph) i
unfolding is_broken
by_place font glyph i n there = rw (less_is glyph (length font.value.glyphs) there) refl

-- at a step of a glyph
pub at_step : (font : CheckedFont) (unit step glyph i n : ℕ) → unit ≡ glyph + 1 → step ≡ i + 1 → glyph < length font.value.glyphs
    → is_broken font unit step n ≡ step_breaks (step_limit font) (rules_of font) n (steps_of font.value glyph) i
at_step font unit step glyph i n at place there =
    let unit_is : unit ≡ suc glyph = omega arith in
    let step_is : step ≡ suc i = omega arith in
    ap (λ (u : ℕ). is_broken font u step n) unit_is ∙ ap (λ (s : ℕ). is_broken font (suc glyph) s n) step_is ∙ by_place font glyph i n there

path_by_place : (font : FontValue) (glyph i : ℕ) → glyph < length font.glyphs → path_in font (suc glyph) (suc i) ≡ path_of_step
    (slice_get (steps_of font glyph) i)
unfolding path_in
path_by_place font glyph i there = rw (less_is glyph (length font.glyphs) there) refl

pub path_at_step : (font : FontValue) (unit step glyph i : ℕ) → unit ≡ glyph + 1 → step ≡ i + 1 → glyph < length font.glyphs
    → path_in font unit step ≡ path_of_step (slice_get (steps_of font glyph) i)
path_at_step font unit step glyph i at place there =
    let unit_is : unit ≡ suc glyph = omega arith in
    let step_is : step ≡ suc i = omega arith in
    ap (λ (u : ℕ). path_in font u step) unit_is ∙ ap (λ (s : ℕ). path_in font (suc glyph) s) step_is ∙ path_by_place font glyph i there

no_path_past : (font : FontValue) (glyph step : ℕ) → length font.glyphs ≤ glyph → path_in font (suc glyph) step ≡ []
unfolding path_in
no_path_past font glyph zero past = refl
no_path_past font glyph (suc i) past = rw (not_less glyph (length font.glyphs) past) refl

-- there is none after the glyphs
pub no_path_behind : (font : FontValue) (unit step : ℕ) → length font.glyphs < unit → path_in font unit step ≡ []
no_path_behind font zero step past = absurd (omega (arith, past))
no_path_behind font (suc glyph) step past = no_path_past font glyph step (omega (arith, past))

no_step : (font : CheckedFont) (glyph n : ℕ) → is_broken font (suc glyph) 0 n ≡ false
unfolding is_broken
no_step font glyph n = refl

-- a glyph's steps begin at 1
pub at_no_step : (font : CheckedFont) (unit step n : ℕ) → 0 < unit → step < 1 → is_broken font unit step n ≡ false
at_no_step font zero step n first none = absurd (omega arith)
at_no_step font (suc glyph) step n first none =
    let step_is : step ≡ 0 = omega arith in
    ap (λ (s : ℕ). is_broken font (suc glyph) s n) step_is ∙ no_step font glyph n

-- nothing is broken past the first step past the limit
past_limit : (limit : ℕ) (table : List StepRule) (n : ℕ) (steps : List StepView) (i : ℕ) → limit < i → step_breaks limit table n steps i ≡ false
past_limit limit table n steps i past = rw (not_less i limit (omega (arith, past)), ne_eqb i limit (λ e. omega (arith, past, e))) refl

-- nor past the last step
pub past_last_step : (limit : ℕ) (table : List StepRule) (n : ℕ) (steps : List StepView) (i : ℕ) → length steps ≤ i → step_breaks limit table n steps i ≡ false
past_last_step limit table n steps i past = rw (slice_get_past steps i past, not_less i (length steps) past)
    (by_place (nat_lt i limit) (i == limit) (number_of L01 == n))
  where
    by_place : (before at is : Bool) → cond before false ((at && false) && is) ≡ false
    by_place true at is = refl
    by_place false true is = refl
    by_place false false is = refl

by_limit : (font : CheckedFont) (glyph i n : ℕ) → length (take (step_limit font + 1) (steps_of font.value glyph)) ≤ i
    → (nat_lt glyph (length font.value.glyphs) && step_breaks (step_limit font) (rules_of font) n (steps_of font.value glyph) i) ≡ false
by_limit font glyph i n past =
    let steps : List StepView = steps_of font.value glyph in
    let count = length-take (step_limit font + 1) steps in
    ap (λ (b : Bool). nat_lt glyph (length font.value.glyphs) && b) (elim (cases_lt i (length steps)) [
      | inr beyond ↦ past_last_step (step_limit font) (rules_of font) n steps i beyond
      | inl within ↦ past_limit (step_limit font) (rules_of font) n steps i (omega (arith, count, past, within))
    ])
    ∙ and-false _

behind : (font : CheckedFont) (glyph step n : ℕ) → length (take (step_limit font + 1) (steps_of font.value glyph)) < step
    → is_broken font (suc glyph) step n ≡ false
unfolding is_broken
behind font glyph zero n past = absurd (omega arith)
behind font glyph (suc i) n past = by_limit font glyph i n (omega arith)

-- nor past the last step
pub past_steps : (font : CheckedFont) (unit glyph step n : ℕ) → unit ≡ glyph + 1 → length (take (step_limit font + 1) (steps_of font.value glyph)) < step
    → is_broken font unit step n ≡ false
past_steps font unit glyph step n at past =
    let unit_is : unit ≡ suc glyph = omega arith in
    ap (λ (u : ℕ). is_broken font u step n) unit_is ∙ behind font glyph step n past

-- past the last glyph
pub past_glyphs : (font : CheckedFont) (unit step n : ℕ) → length font.value.glyphs < unit → is_broken font unit step n ≡ false
unfolding is_broken
past_glyphs font zero step n past = absurd (omega arith)
past_glyphs font (suc glyph) zero n past = refl
past_glyphs font (suc glyph) (suc i) n past = rw (not_less glyph (length font.value.glyphs) (omega arith)) refl

-- The rules of a font, by what its components are.
pub rules_by : (font : CheckedFont) (components : List Component) → components ≡ components_of (step_limit font) font.value
    → rules_with font.edition components (box_of font.value) ≡ rules_of font
unfolding rules_of
rules_by font components are = ap (λ cs. rules_with font.edition cs (box_of font.value)) are

-- An edition without rules on the drawing has those on charstrings alone.
pub early_rules : (font : CheckedFont) → has_latest_rules font.edition ≡ false → rules_of font ≡ rules_in font.edition font.value
unfolding rules_of
early_rules font early =
    ap (λ latest. if latest then rules_in font.edition font.value ++ drawing_rules (box_of font.value) else rules_in font.edition font.value) early

-- What a step breaks of them: of those on charstrings, and where the edition has them of those on the drawing.
module _ (edition : Edition) (components : List Component) (box : Option FontBox) (n : ℕ) (before : List StepView) (step : StepView) where
  pub breaks_both : breaks (rules_with edition components box) n before step
      ≡ (breaks (charstring_rules edition components) n before step || (has_latest_rules edition && breaks (drawing_rules box) n before step))
  breaks_both = go (has_latest_rules edition)
    where
      go : (latest : Bool) → breaks (if latest then charstring_rules edition components ++ drawing_rules box else charstring_rules edition components) n before step
          ≡ (breaks (charstring_rules edition components) n before step || (latest && breaks (drawing_rules box) n before step))
      go true = list_any-append (λ r. r.is_broken before step && number_of r.rule == n) (charstring_rules edition components) (drawing_rules box)
      go false = sym (or-false (breaks (charstring_rules edition components) n before step))

  -- Nothing, where none of either is broken.
  pub breaks_neither : breaks (charstring_rules edition components) n before step ≡ false
      → (has_latest_rules edition && breaks (drawing_rules box) n before step) ≡ false
      → breaks (rules_with edition components box) n before step ≡ false
  breaks_neither none drawn = breaks_both ∙ rw (none, drawn) refl

-- Up to the limit a step breaks what the rules say of it.
pub within_limit : (limit : ℕ) (table : List StepRule) (n : ℕ) (steps : List StepView) (i : ℕ) → i < limit
    → step_breaks limit table n steps i ≡ breaks_at table n steps i
within_limit limit table n steps i less = rw (less_is i limit less) refl

-- At the limit it breaks the rule on that alone, where there is a step.
pub at_limit : (limit : ℕ) (table : List StepRule) (n : ℕ) (steps : List StepView) (i : ℕ) → i ≡ limit → step_breaks limit table n steps i
    ≡ (nat_lt limit (length steps) && number_of L01 == n)
at_limit limit table n steps i at = ap (step_breaks limit table n steps) at ∙ rw (not_less limit limit (omega arith), eq-eqb limit limit refl) refl

-- What the last of some steps breaks is what it breaks among all of them: those after it have no say.
last_there : (before : List StepView) (step : StepView) → slice_get (before ++ step ∷ []) (length before) ≡ Some step
last_there [] step = refl
last_there (s ∷ before) step = last_there before step

pub breaks_last : (table : List StepRule) (n : ℕ) (before : List StepView) (step : StepView) → breaks_at table n (before ++ step ∷ [])
    (length before) ≡ breaks table n before step
breaks_last table n before step = rw (take-append_seam before (step ∷ []), last_there before step) refl

pub so_far_decides : (limit : ℕ) (table : List StepRule) (n : ℕ) (all : List StepView) (i : ℕ) (step : StepView) → slice_get all i ≡ Some step
    → step_breaks limit table n (take i all ++ step ∷ []) (length (take i all)) ≡ step_breaks limit table n all i
so_far_decides limit table n all i step there =
    let within : i < length all = slice_get_within all i step there in
    let long : length (take i all) ≡ i = omega (arith, within, length-take i all) in
    let more = length-append (take i all) (step ∷ []) in
    let at : breaks_at table n (take i all ++ step ∷ []) (length (take i all)) ≡ breaks_at table n all i =
    breaks_last table n (take i all) step ∙ sym (ap (breaks_next table n (take i all)) there) in
    rw (at, less_is (length (take i all)) (length (take i all ++ step ∷ [])) (omega (arith, more)), long, less_is i (length all) within) refl

-- The rules of a glyph's own steps and those on components, joined.
pub both_kinds : (edition : Edition) (components : List Component) (n : ℕ) (before : List StepView) (step : StepView) (both left right : Bool)
    → both ≡ (left || right)
    → left ≡ breaks (step_rules edition) n before step → right ≡ breaks (component_rules components) n before step
    → both ≡ breaks (charstring_rules edition components) n before step
unfolding charstring_rules
both_kinds edition components n before step both left right is by_left by_right = joined (step_rules edition) (component_rules components) n before step both
    left right is by_left by_right
