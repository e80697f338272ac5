-- Why a waiver isn't used.
use Rattle.std.specs.Prelude.{◌≡◌, ◌↔◌, ℕ, suc, ◌+◌, ◌<◌, true, false, Option, Some, None, List}
use Rattle.t1_font.specs.Fonts.{FontValue}
use Rattle.t1_report.specs.Checked.{CheckedFont, step_limit}
use Rattle.t1_report.specs.Reports.{is_broken, is_unused}
use Rattle.t1_report.specs.Waivers.{Waiver}
use Rattle.t1_rules.specs.Book.{number_of}
use Rattle.t1_rules.specs.Components.{glyph_named}
use Rattle.t1_reasons.specs.declared.waivers.Unused.{Unused}
use Rattle.t1_reasons.specs.declared.waivers.Unused.TheVariants.{NoGlyph, Unbroken}

abbrev pub unused_by : Option ℕ → Unused
unused_by None = NoGlyph
unused_by (Some glyph) = Unbroken glyph

abbrev pub unused_reason : FontValue → List ℕ → Unused
unused_reason font name = unused_by (glyph_named font name)

-- No glyph has the name; or the glyph of the name breaks the rule at none of its steps, nor just past the limit.
abbrev pub IsUnusedFor : CheckedFont → Waiver → Unused → Type 0
IsUnusedFor font w NoGlyph = glyph_named font.value w.0 ≡ None
IsUnusedFor font w (Unbroken glyph) =
    (glyph_named font.value w.0 ≡ Some glyph)
    × ((step : ℕ) → step < step_limit font + 2 → is_broken font (suc glyph) step (number_of w.1) ≡ false)

-- A waiver isn't used exactly where its reason holds.
abbrev pub WaiversAreUnusedForAReason : Type 0
WaiversAreUnusedForAReason =
    (font : CheckedFont) (w : Waiver) → (is_unused font (Some w) ≡ true) ↔ IsUnusedFor font w (unused_reason font.value w.0)
