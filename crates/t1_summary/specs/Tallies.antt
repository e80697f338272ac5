-- Numbers of fonts by how they were found, and of lines by their rules.
use Rattle.std.specs.Prelude.{◌≡◌, ℕ, ◌-◌, ◌<◌, ◌^◌, All, List, length, map, slice_index, sum}
use Rattle.t1_rules.specs.Book.{last_number, number_of, rules}
use Rattle.t1_rules.specs.declared.rule.Rule.{Rule}
use Rattle.t1_summary.specs.Classes.{capped, classes, fonts_of, lines_of, place_of}
use Rattle.t1_summary.specs.declared.found.FontClass.{FontClass}
use Rattle.t1_summary.specs.declared.tally.Tally.{Tally}

-- The tally of fonts, each by how it was found, and of lines, each by its rule.
unfoldable pub tally_of : List FontClass → List Rule → Tally
tally_of founds lines = record {
  fonts = map (λ class. capped (fonts_of founds class)) classes;
  lines = map (λ rule. capped (lines_of lines rule)) rules;
}

-- How many fonts of a class a tally has.
abbrev pub fonts_in : Tally → FontClass → ℕ
fonts_in tally class = slice_index tally.fonts (place_of class)

-- How many fonts it has.
abbrev pub all_fonts : Tally → ℕ
all_fonts tally = capped (sum tally.fonts)

-- How many lines of a rule it has.
abbrev pub lines_in : Tally → Rule → ℕ
lines_in tally rule = slice_index tally.lines (number_of rule - 1)

-- A tally has a number of 64 bits for each class and each rule.
pub record IsTally (tally : Tally) : Type 0 where
  pub classes : length tally.fonts ≡ 5
  pub rules : length tally.lines ≡ last_number
  pub fonts_fit : All (λ n. n < 2 ^ 64) tally.fonts
  pub lines_fit : All (λ n. n < 2 ^ 64) tally.lines
