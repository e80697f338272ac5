-- How the check of one font of many ends, and how the font was found.
use Rattle.std.specs.Prelude.{◌≡◌, ◌≤◌, ℕ, List, length, Some, Ok}
use Rattle.t1_char.specs.declared.edition.Edition.{Edition}
use Rattle.t1_font.specs.Bounds.{most_glyphs}
use Rattle.t1_font.specs.FontFiles.{font_in}
use Rattle.t1_font.specs.Fonts.{FontValue}
use Rattle.t1_summary.specs.declared.found.FontClass.{FontClass}
use Rattle.t1_summary.specs.declared.found.FontClass.TheVariants as founds
use Rattle.t1_many.specs.declared.font_error.FontError.{FontError}
use Rattle.t1_many.specs.declared.font_error.FontError.TheVariants.{Refused, Unchecked}
use Rattle.t1_report.specs.Faults.{FaultValue}
use Rattle.t1_report.specs.Waivers.{Waiver, largest_waivers, waivers_of}

-- A font that was read of a file's bytes, and waivers that were read of a text in an edition.
pub record IsRead (font : FontValue) (waivers : List Waiver) : Type 0 where
  pub bytes : List ℕ
  pub font_is : font_in bytes ≡ Ok font
  pub text : List ℕ
  pub edition : Edition
  pub waivers_are : waivers_of edition text ≡ Some waivers
  pub few : length font.glyphs ≤ most_glyphs
  pub few_waivers : length waivers ≤ largest_waivers

-- A report that was made: the faults of this font, by this edition, with these waivers.
pub record Report : Type 0 where
  pub font : FontValue
  pub edition : Edition
  pub waivers : List Waiver
  pub faults : List FaultValue

-- Its report was made, or why there is none.
pub data Outcome : Type 0 where
  reported : Report → Outcome
  failed : FontError → Outcome

-- A font of many, and how its check ended.
pub record Entry : Type 0 where
  pub name : List ℕ
  pub outcome : Outcome

-- How a font was found of which there is no report.
abbrev pub found_of_error : FontError → FontClass
found_of_error (Refused code) = founds.Refused
found_of_error (Unchecked why) = founds.Unchecked
