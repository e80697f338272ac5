-- Where a font has the same report in both editions.
use Rattle.std.specs.Prelude.{◌≡◌, ◌↔◌, ℕ, ◌<◌, ◌≤◌, false, List, [], length}
use Rattle.std.specs.List.{list_any}
use Rattle.t1_char.specs.declared.edition.Edition.TheVariants.{One, Two}
use Rattle.t1_char.specs.Editions.{limit_of}
use Rattle.t1_char.specs.Steps.{steps_of}
use Rattle.t1_font.specs.Fonts.{FontValue}
use Rattle.t1_rules.specs.Laws.Editions.{sets_one_edge}
use Rattle.t1_report.specs.Checked.{checked}
use Rattle.t1_report.specs.Faults.{FaultValue}
use Rattle.t1_report.specs.Reports.{IsReport}
use Rattle.t1_report.specs.Waivers.{Waiver}

-- Each glyph has no more steps than the first edition looks at. None of them sets a stem whose width, clamped,
-- is -20 or -21.
pub record IsUsual (font : FontValue) : Type 0 where
  pub short : (glyph : ℕ) → glyph < length font.glyphs → length (steps_of font glyph) ≤ limit_of One
  pub wide : (glyph : ℕ) → glyph < length font.glyphs → list_any sets_one_edge (steps_of font glyph) ≡ false

-- Such a font has one report in both, whatever is waived.
abbrev pub UsualFontsHaveOneReport : Type 0
UsualFontsHaveOneReport =
    (font : FontValue) → IsUsual font → (waivers : List Waiver) (faults : List FaultValue) →
    IsReport (checked font One) waivers faults ↔ IsReport (checked font Two) waivers faults

-- A font without a fault in the first edition has none in the second, where nothing is waived.
abbrev pub CleanFontsStayClean : Type 0
CleanFontsStayClean = (font : FontValue) → IsReport (checked font One) [] [] → IsReport (checked font Two) [] []
