-- What is reported at a unit and a step, given waivers: in the font, of a glyph, of the waivers, and where nothing is.
use Rattle.std.proofs.Common.{◌≡◌, ℕ, zero, suc, ◌+◌, ◌<◌, ◌≤◌, ◌==◌, ◌&&◌, ◌||◌, not, Bool, true, false, List, [], length, inl, inr, refl, sym, ap, ◌∙◌, arith}
use Rattle.std.proofs.Math.Bool.{and-false, and-true}
use Rattle.std.proofs.lemmas.Bool.{cases_lt, cases_order, eq-eqb, ne_eqb, true≢false}
use Rattle.std.proofs.lemmas.Option.{slice_get_past}
use Rattle.t1_font.specs.Fonts.{glyph_name}
use Rattle.t1_report.specs.Checked.{CheckedFont}
use Rattle.t1_rules.specs.declared.rule.Rule.TheVariants.{U01}
use Rattle.t1_rules.specs.Book.{number_of}
use Rattle.t1_report.specs.Reports.{is_broken, is_broken_below, is_told, is_unused, tells_unused}
use Rattle.t1_report.specs.Waivers.{Waiver, is_waived}
use Rattle.t1_report.proofs.Broken.{at_no_step, past_glyphs}

-- ---- the font, the glyphs, the waivers

pub told_in_font : (font : CheckedFont) (waivers : List Waiver) (step n : ℕ) → is_told font waivers 0 step n ≡ is_broken font 0 step n
unfolding is_told
told_in_font font waivers step n = refl

pub in_glyph : (font : CheckedFont) (waivers : List Waiver) (glyph step n : ℕ) → glyph < length font.value.glyphs
    → is_told font waivers (suc glyph) step n ≡ (is_broken font (suc glyph) step n && not (is_waived waivers (glyph_name font.value glyph) n))
unfolding is_told
in_glyph font waivers glyph step n there = rw (ne_eqb glyph (length font.value.glyphs) (λ e. omega (arith, e, there))) refl

pub told_in_glyph : (font : CheckedFont) (waivers : List Waiver) (unit glyph step n : ℕ) → unit ≡ glyph + 1 → glyph < length font.value.glyphs
    → is_told font waivers unit step n ≡ (is_broken font unit step n && not (is_waived waivers (glyph_name font.value glyph) n))
told_in_glyph font waivers unit glyph step n at there =
    let is : unit ≡ suc glyph = omega (arith, at) in
    ap (λ u. is_told font waivers u step n) is ∙ in_glyph font waivers glyph step n there
    ∙ ap (λ u. is_broken font u step n && not (is_waived waivers (glyph_name font.value glyph) n)) (sym is)

behind_glyphs : (font : CheckedFont) (waivers : List Waiver) (step n : ℕ) → is_told font waivers (suc (length font.value.glyphs)) step n
    ≡ tells_unused font waivers step n
unfolding is_told
behind_glyphs font waivers step n = rw (eq-eqb (length font.value.glyphs) (length font.value.glyphs) refl) refl

pub told_of_waiver : (font : CheckedFont) (waivers : List Waiver) (unit step n : ℕ) → unit ≡ length font.value.glyphs + 1 → is_told font waivers unit step n
    ≡ tells_unused font waivers step n
told_of_waiver font waivers unit step n at =
    let is : unit ≡ suc (length font.value.glyphs) = omega (arith, at) in
    ap (λ u. is_told font waivers u step n) is ∙ behind_glyphs font waivers step n

-- ---- where nothing is reported

pub quiet_told : (font : CheckedFont) (waivers : List Waiver) (unit step n : ℕ) → unit ≤ length font.value.glyphs → is_broken font unit step n ≡ false
    → is_told font waivers unit step n ≡ false
quiet_told font waivers zero step n within none = told_in_font font waivers step n ∙ none
quiet_told font waivers (suc glyph) step n within none =
    in_glyph font waivers glyph step n (omega (arith, within)) ∙ ap (λ b. b && not (is_waived waivers (glyph_name font.value glyph) n)) none

past_all : (font : CheckedFont) (waivers : List Waiver) (unit step n : ℕ) → length font.value.glyphs + 1 < unit → is_told font waivers unit step n ≡ false
unfolding is_told
past_all font waivers zero step n past = absurd (omega (arith, past))
past_all font waivers (suc glyph) step n past =
    rw (ne_eqb glyph (length font.value.glyphs) (λ e. omega (arith, e, past)), past_glyphs font (suc glyph) step n (omega (arith, past))) refl

pub past_waivers : (font : CheckedFont) (waivers : List Waiver) (unit step n : ℕ) → length font.value.glyphs + 1 < unit
    → is_told font waivers unit step n ≡ false
past_waivers font waivers unit step n past = past_all font waivers unit step n past

-- Waivers have the steps from 1 to their count.
pub no_waiver : (font : CheckedFont) (waivers : List Waiver) (step n : ℕ) → length waivers < step → tells_unused font waivers step n ≡ false
no_waiver font waivers zero n past = absurd (omega (arith, past))
no_waiver font waivers (suc i) n past =
    ap (λ w. number_of U01 == n && is_unused font w) (slice_get_past waivers i (omega (arith, past))) ∙ and-false (number_of U01 == n)

pub first_waiver : (font : CheckedFont) (waivers : List Waiver) (step n : ℕ) → step < 1 → tells_unused font waivers step n ≡ false
first_waiver font waivers zero n none = refl
first_waiver font waivers (suc i) n none = absurd (omega (arith, none))

-- Nothing is reported at step 0 but of the font.
pub told_no_step : (font : CheckedFont) (waivers : List Waiver) (unit step n : ℕ) → 0 < unit → step < 1 → is_told font waivers unit step n ≡ false
told_no_step font waivers unit step n first none =
    elim (cases_order unit (length font.value.glyphs + 1)) [
      | inl same ↦ told_of_waiver font waivers unit step n same ∙ first_waiver font waivers step n none
      | inr (inl less) ↦ quiet_told font waivers unit step n (omega (arith, less)) (at_no_step font unit step n first none)
      | inr (inr more) ↦ past_waivers font waivers unit step n more
    ]

-- What is reported is in a unit that there is.
pub told_within : (font : CheckedFont) (waivers : List Waiver) (unit step n : ℕ) → is_told font waivers unit step n ≡ true → unit ≤ length font.value.glyphs + 1
told_within font waivers unit step n is =
    elim (cases_lt (length font.value.glyphs + 1) unit) [
      | inl past ↦ absurd (true≢false (sym is ∙ past_waivers font waivers unit step n past))
      | inr within ↦ within
    ]

-- ---- whether a waiver is used

pub none_below : (font : CheckedFont) (unit count n : ℕ) → ((s : ℕ) → s < count → is_broken font unit s n ≡ false) → is_broken_below font unit count n ≡ false
unfolding is_broken_below
none_below font unit zero n none = refl
none_below font unit (suc s) n none =
    rw (none s (omega arith)) (none_below font unit s n (λ t less. none t (omega (arith, less))))

pub some_below : (font : CheckedFont) (unit count n s : ℕ) → s < count → is_broken font unit s n ≡ true → is_broken_below font unit count n ≡ true
unfolding is_broken_below
some_below font unit zero n s less is = absurd (omega (arith, less))
some_below font unit (suc last) n s less is =
    elim (cases_lt s last) [
      | inl before ↦ rw (some_below font unit last n s before is) (or_true (is_broken font unit last n))
      | inr here ↦ rw (ap (λ t. is_broken font unit t n) (let at : last ≡ s = omega (arith, less, here) in at) ∙ is) refl
    ]
  where
    or_true : (b : Bool) → (b || true) ≡ true
    or_true true = refl
    or_true false = refl

-- ---- without waivers

unused_without : (font : CheckedFont) (step n : ℕ) → tells_unused font [] step n ≡ false
unused_without font step n = elim (cases_lt step 1) [
  | inl none ↦ first_waiver font [] step n none
  | inr some ↦ no_waiver font [] step n (omega (arith, some))
]

glyph_without : (font : CheckedFont) (unit step n : ℕ) → unit ≤ length font.value.glyphs → is_told font [] unit step n ≡ is_broken font unit step n
glyph_without font zero step n within = told_in_font font [] step n
glyph_without font (suc glyph) step n within = in_glyph font [] glyph step n (omega (arith, within)) ∙ and-true (is_broken font (suc glyph) step n)

-- What is reported is what is broken.
pub told_without : (font : CheckedFont) (unit step n : ℕ) → is_told font [] unit step n ≡ is_broken font unit step n
told_without font unit step n = elim (cases_lt (length font.value.glyphs) unit) [
  | inr within ↦ glyph_without font unit step n within
  | inl past ↦ sides past
]
  where
    left : length font.value.glyphs < unit → is_told font [] unit step n ≡ false
    left past = elim (cases_lt (length font.value.glyphs + 1) unit) [
      | inl far ↦ past_waivers font [] unit step n far
      | inr near ↦ told_of_waiver font [] unit step n (omega (arith, past, near)) ∙ unused_without font step n
    ]

    sides : length font.value.glyphs < unit → is_told font [] unit step n ≡ is_broken font unit step n
    sides past = left past ∙ sym (past_glyphs font unit step n past)
