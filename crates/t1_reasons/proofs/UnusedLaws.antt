-- Why a waiver isn't used.
use Rattle.std.proofs.Common.{◌≡◌, ◌↔◌, ℕ, zero, suc, ◌+◌, ◌<◌, Bool, true, false, not, Option, Some, None, inl, inr, refl, ap, ◌∙◌, arith}
use Rattle.std.proofs.lemmas.Bool.{cases_order}
use Rattle.t1_report.specs.Checked.{CheckedFont, step_limit}
use Rattle.t1_report.specs.Reports.{is_broken, is_broken_below, is_used_by}
use Rattle.t1_report.proofs.Told.{none_below}
use Rattle.t1_rules.specs.Book.{number_of}
use Rattle.t1_rules.specs.Components.{glyph_named}
use Rattle.t1_reasons.specs.UnusedWaivers.{IsUnusedFor, WaiversAreUnusedForAReason, unused_by}
use Rattle.t1_reasons.proofs.RemedyLaws.{either}

not_below : (font : CheckedFont) (unit count n : ℕ) → is_broken_below font unit count n ≡ false → (s : ℕ) → s < count → is_broken font unit s n ≡ false
unfolding is_broken_below
not_below font unit zero n none s less = absurd (omega arith)
not_below font unit (suc c) n none s less =
    let parts = (either (is_broken font unit c n) (is_broken_below font unit c n)).0 none in
    elim (cases_order s c) [
      | inl same ↦ ap (λ (t : ℕ). is_broken font unit t n) same ∙ parts.0
      | inr (inl before) ↦ not_below font unit c n parts.1 s before
      | inr (inr after) ↦ absurd (omega (arith, less, after))
    ]

is_not : (b : Bool) → (not b ≡ true) ↔ (b ≡ false)
is_not true = (λ e. let never : false ≡ true = e in cc, λ e. let never : true ≡ false = e in cc)
is_not false = (λ e. refl, λ e. refl)

pub waivers_are_unused_for_a_reason : WaiversAreUnusedForAReason
waivers_are_unused_for_a_reason font w = go (glyph_named font.value w.0) refl
  where
    n : ℕ
    n = number_of w.1

    go : (named : Option ℕ) → glyph_named font.value w.0 ≡ named → (not (is_used_by font n named) ≡ true) ↔ IsUnusedFor font w (unused_by named)
    go None is = (λ e. is, λ e. refl)
    go (Some glyph) is =
        let whole = is_not (is_broken_below font (suc glyph) (step_limit font + 2) n) in (
          λ e. (is, λ step less. not_below font (suc glyph) (step_limit font + 2) n (whole.0 e) step less),
          λ reason. whole.1 (none_below font (suc glyph) (step_limit font + 2) n reason.1),
        )
