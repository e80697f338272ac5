-- The reports of an edition without the rules after number 70 are those of the font without its noted keys.
use Rattle.std.proofs.Common.{◌≡◌, ℕ, zero, suc, ◌/◌, ◌%◌, ◌==◌, ◌&&◌, ◌+◌, not, nat_lt, if◌then◌else◌, Bool, true, false, Option, Some, None, List, [], length, slice_get, refl, sym, ap, ◌∙◌}
use Rattle.t1_char.specs.Editions.{has_later_rules}
use Rattle.t1_char.specs.Steps.{StepView, steps_of}
use Rattle.t1_font.specs.Fonts.{glyph_name}
use Rattle.t1_font.specs.Laws.Notes.{unnoted}
use Rattle.t1_rules.specs.declared.rule.Rule.TheVariants.{U01}
use Rattle.t1_rules.specs.Book.{number_of}
use Rattle.t1_rules.specs.Components.{glyph_named}
use Rattle.t1_rules.specs.Keys.{index_count}
use Rattle.t1_rules.specs.StepRules.{StepRule}
use Rattle.t1_rules.proofs.Lemmas.NotedKeys.{font_rules_same, step_rules_same, steps_same}
use Rattle.t1_report.specs.Checked.{CheckedFont, checked, step_limit}
use Rattle.t1_report.specs.Laws.LaterRules.{EarlierReportsKnowNoNotes}
use Rattle.t1_report.specs.Reports.{Place, is_broken, is_told, is_unused, is_used, is_used_by, path_at, path_in, path_of_step, rules_of, step_breaks, tells_unused}
use Rattle.t1_report.specs.Waivers.{Waiver, is_waived}
use Rattle.t1_report.proofs.Broken.{early_rules}
use Rattle.t1_report.proofs.Editions.{below_same, reported_alike}
use Rattle.t1_report.proofs.LaterRules.{latest_are_later}

abbrev without : CheckedFont → CheckedFont
without font = checked (unnoted font.value) font.edition

path_same : (font : CheckedFont) (p : Place) → path_at (without font) p ≡ path_at font p
unfolding path_in
path_same font p = go p.unit p.step
  where
    go : (unit step : ℕ) → path_in (unnoted font.value) unit step ≡ path_in font.value unit step
    go zero step = refl
    go (suc glyph) zero = refl
    go (suc glyph) (suc i) =
        ap (λ (steps : List StepView). if nat_lt glyph (length font.value.glyphs) then path_of_step (slice_get steps i) else []) (steps_same font.value glyph)

module _ (font : CheckedFont) (none : has_later_rules font.edition ≡ false) where
  broken_same : (unit step n : ℕ) → is_broken (without font) unit step n ≡ is_broken font unit step n
  unfolding is_broken
  broken_same zero step n = font_rules_same font.edition none n font.value (step / index_count) (step % index_count)
  broken_same (suc glyph) zero n = refl
  broken_same (suc glyph) (suc i) n =
      ap (λ (rules : List StepRule). nat_lt glyph (length font.value.glyphs) && step_breaks (step_limit font) rules n (steps_of (unnoted font.value) glyph) i)
      (early_rules (without font) (latest_are_later font.edition none) ∙ step_rules_same font.edition font.value
      ∙ sym (early_rules font (latest_are_later font.edition none)))
      ∙ ap (λ (steps : List StepView). nat_lt glyph (length font.value.glyphs) && step_breaks (step_limit font) (rules_of font) n steps i)
      (steps_same font.value glyph)

  used_same : (w : Waiver) → is_used (without font) w ≡ is_used font w
  used_same w = go (glyph_named font.value w.0)
    where
      go : (found : Option ℕ) → is_used_by (without font) (number_of w.1) found ≡ is_used_by font (number_of w.1) found
      go None = refl
      go (Some glyph) =
          below_same (without font) font (suc glyph) (number_of w.1) (λ s. broken_same (suc glyph) s (number_of w.1)) (step_limit font + 2)

  unused_same : (waivers : List Waiver) (step n : ℕ) → tells_unused (without font) waivers step n ≡ tells_unused font waivers step n
  unused_same waivers zero n = refl
  unused_same waivers (suc i) n = ap (λ b. number_of U01 == n && b) (go (slice_get waivers i))
    where
      go : (w : Option Waiver) → is_unused (without font) w ≡ is_unused font w
      go None = refl
      go (Some w) = ap not (used_same w)

  told_same : (waivers : List Waiver) (unit step n : ℕ) → is_told (without font) waivers unit step n ≡ is_told font waivers unit step n
  unfolding is_told
  told_same waivers zero step n = broken_same 0 step n
  told_same waivers (suc glyph) step n = go (glyph == length font.value.glyphs)
    where
      left : Bool
      left = not (is_waived waivers (glyph_name font.value glyph) n)

      go : (b : Bool) → (if b then tells_unused (without font) waivers step n else is_broken (without font) (suc glyph) step n && left)
          ≡ (if b then tells_unused font waivers step n else is_broken font (suc glyph) step n && left)
      go true = unused_same waivers step n
      go false = ap (λ b. b && left) (broken_same (suc glyph) step n)

pub earlier_reports_know_no_notes : EarlierReportsKnowNoNotes
earlier_reports_know_no_notes font waivers faults none = (
  reported_alike font (without font) waivers waivers faults (λ p. sym (path_same font p)) (λ unit step n. sym (told_same font none waivers unit step n)),
  reported_alike (without font) font waivers waivers faults (path_same font) (told_same font none waivers),
)
