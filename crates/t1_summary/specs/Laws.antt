-- The statements of laws.
use Rattle.std.specs.Prelude.{◌≡◌, ◌<◌, ◌^◌, List, length, sum, sum_by}
use Rattle.t1_rules.specs.Book.{rules}
use Rattle.t1_rules.specs.declared.rule.Rule.{Rule}
use Rattle.t1_summary.specs.Classes.{capped, classes, fonts_of, lines_of}
use Rattle.t1_summary.specs.Rankings.{IsRanking, ranking}
use Rattle.t1_summary.specs.Tallies.{IsTally, all_fonts, fonts_in, lines_in, tally_of}
use Rattle.t1_summary.specs.declared.found.FontClass.{FontClass}
use Rattle.t1_summary.specs.declared.tally.Tally.{Tally}

-- Each font is of one class.
abbrev pub ClassesAddUp : Type 0
ClassesAddUp = (founds : List FontClass) → sum_by (fonts_of founds) classes ≡ length founds

-- Each line is of one rule.
abbrev pub RulesAddUp : Type 0
RulesAddUp = (lines : List Rule) → sum_by (lines_of lines) rules ≡ length lines

-- The tally of fonts and lines has their counts.
pub record Counts (founds : List FontClass) (lines : List Rule) : Type 0 where
  pub is : IsTally (tally_of founds lines)
  pub fonts : all_fonts (tally_of founds lines) ≡ capped (length founds)
  pub of_class : (class : FontClass) → fonts_in (tally_of founds lines) class ≡ capped (fonts_of founds class)
  pub of_rule : (rule : Rule) → lines_in (tally_of founds lines) rule ≡ capped (lines_of lines rule)

abbrev pub TalliesCount : Type 0
TalliesCount = (founds : List FontClass) (lines : List Rule) → Counts founds lines

-- The numbers of the classes sum to the fonts, if there are fewer than 2^64.
abbrev pub FontsAddUp : Type 0
FontsAddUp =
    (founds : List FontClass) (lines : List Rule) → length founds < 2 ^ 64 → sum (tally_of founds lines).fonts ≡ length founds

-- The numbers of the rules sum to the lines, if there are fewer than 2^64.
abbrev pub LinesAddUp : Type 0
LinesAddUp =
    (founds : List FontClass) (lines : List Rule) → length lines < 2 ^ 64 → sum (tally_of founds lines).lines ≡ length lines

-- There is a ranking.
abbrev pub RankingsStand : Type 0
RankingsStand = (tally : Tally) → IsRanking tally (ranking tally)

-- There is no other.
abbrev pub RankingsAreOne : Type 0
RankingsAreOne = (tally : Tally) (order : List Rule) → IsRanking tally order → order ≡ ranking tally
