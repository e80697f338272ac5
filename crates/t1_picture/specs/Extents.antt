-- What is shown of a glyph, by what is requested.
use Rattle.std.specs.Prelude.{◌≡◌, ◌⊎◌, ◌+◌, ◌==◌, ◌||◌, if◌then◌else◌, ℕ, Bool, List, Option, None, Some}
use Rattle.t1_font.specs.Fonts.{FontValue}
use Rattle.t1_picture.specs.Subjects.{ShownValue, everything, one_fault, up_to}
use Rattle.t1_picture.specs.declared.extent.Extent.{Extent}
use Rattle.t1_picture.specs.declared.extent.Extent.TheVariants.{All, Fault, UpTo}
use Rattle.t1_report.specs.Checked.{CheckedFont}
use Rattle.t1_report.specs.Faults.{FaultValue}
use Rattle.t1_report.specs.Lines.{IsInFont}
use Rattle.t1_report.specs.Numbered.{IsNumbered}
use Rattle.t1_report.specs.Waivers.{Waiver}

-- A fault can be shown with a glyph: it is one of the font, or of this glyph.
abbrev pub is_with : ℕ → FaultValue → Bool
is_with glyph fault = fault.unit == 0 || fault.unit == glyph + 1

pub record CanBeShown (font : FontValue) (waivers : List Waiver) (glyph : ℕ) (fault : FaultValue) : Type 0 where
  pub in_font : IsInFont font waivers fault
  pub unit : (fault.unit ≡ 0) ⊎ (fault.unit ≡ glyph + 1)

-- The fault that is shown with a glyph, if one is found.
abbrev pub shown_with : ℕ → Option FaultValue → Option ShownValue
shown_with glyph None = None
shown_with glyph (Some fault) = if is_with glyph fault then Some (one_fault fault) else None

-- What is shown of a glyph. Nothing is where the report has no fault of the number, or another glyph has it.
abbrev pub IsShown : Extent → CheckedFont → List Waiver → ℕ → Option ShownValue → Type 0
IsShown All font waivers glyph shown = shown ≡ Some everything
IsShown (UpTo step) font waivers glyph shown = shown ≡ Some (up_to step)
IsShown (Fault number) font waivers glyph shown =
    (found : Option FaultValue) × IsNumbered font waivers number found × (shown ≡ shown_with glyph found)
