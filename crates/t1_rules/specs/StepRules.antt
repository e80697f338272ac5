-- The charstring rules as a table: which of them a step of a glyph breaks, by the steps before it and
-- itself.
pub mod Arguments
pub mod Calls
pub mod Counters
pub mod Flex
pub mod Othersubrs
pub mod Paths
pub mod Seac
pub mod Stems
pub mod Tokens
pub mod Triples
use Rattle.std.specs.Prelude.{ℕ, ◌==◌, ◌&&◌, Bool, false, Option, Some, None, List, [], ◌∷◌, ◌++◌, slice_get, take}
use Rattle.std.specs.List.{list_any}
use Rattle.t1_char.specs.declared.edition.Edition.{Edition}
use Rattle.t1_char.specs.Editions.{has_later_rules}
use Rattle.t1_char.specs.Since.{Test}
use Rattle.t1_char.specs.Steps.{StepView}
use Rattle.t1_rules.specs.declared.rule.Rule.{Rule}
use Rattle.t1_rules.specs.declared.sidebearings.Component.{Component}
use Rattle.t1_rules.specs.declared.rule.Rule.TheVariants.{C01, C02, C03, C04, C05, C06, C07, C08, C09, S01, S02, S03, S04, GE01, GE02, W01, W02, P01, P02, P03, H01, H02, H03, H04, R01, R02, X01, X02, X03, X04, X05, X06, O01, O02, O03, O04, K01, K02, K03, K04, K05, K06, K07, H05, H06, H07, O05, O06, O07, O08, W03}
use Rattle.t1_rules.specs.Book.{number_of}
use Rattle.t1_rules.specs.StepRules.Arguments.{has_too_few_arguments, has_too_many_arguments, overflows, has_argument_past, divides_past, divides_by_zero}
use Rattle.t1_rules.specs.StepRules.Calls.{calls_missing, calls_too_deep, returns_from_glyph, ends_in_subr, ends_in_glyph, goes_on_past_end}
use Rattle.t1_rules.specs.StepRules.Counters.{calls_first, counts_again, counts_late, leaves_counting, leaves_numbers}
use Rattle.t1_rules.specs.StepRules.Flex.{starts_in_flex, goes_on_outside, commands_in_flex, counts_no_pairs, ends_elsewhere, sets_point_alone}
use Rattle.t1_rules.specs.StepRules.Othersubrs.{calls_unknown, has_bad_count, has_wrong_count, pops_nothing}
use Rattle.t1_rules.specs.StepRules.Paths.{starts_without_width, sets_width_later, draws_unmoved, leaves_open, closes_nothing}
use Rattle.t1_rules.specs.StepRules.Seac.{has_no_code, has_unnamed_code, stands_beside_outline, lacks_component, nests, differs_in_sidebearing, lacks_sidebearing}
use Rattle.t1_rules.specs.StepRules.Stems.{overlap_by, sets_stem_late, sets_overlapping, sets_without_width, sets_unequal, leaves_out_pop, leaves_out_call}
use Rattle.t1_rules.specs.StepRules.Tokens.{is_short, is_cut, is_unknown}
use Rattle.t1_rules.specs.StepRules.Triples.{sets_another, sets_beside, sets_thin}

-- A row of the table: a rule, and where it is broken, given the steps before a step and the step.
pub record StepRule : Type 0 where
  pub rule : Rule
  pub is_broken : Test

abbrev pub row : Rule → Test → StepRule
row rule is_broken = record { rule = rule; is_broken = is_broken }

-- A rule that the step alone decides.
abbrev pub of_step : Rule → (StepView → Bool) → StepRule
of_step rule is_broken = row rule (λ before step. is_broken step)

-- A rule after number 70, which only some editions have.
abbrev pub later_row : Edition → Rule → Test → StepRule
later_row edition rule is_broken = row rule (λ before step. has_later_rules edition && is_broken before step)

-- Tokens, arguments and numbers.
unfoldable pub argument_rules : List StepRule
argument_rules =
    -- The charstring is shorter than lenIV. Type 1 Font Format, chapter 7.
    of_step C01 (λ step. is_short step.token)
    -- The bytes break off inside a token. Type 1 Font Format, chapter 6.
    ∷ of_step C02 (λ step. is_cut step.token)
    -- The command isn't known. Type 1 Font Format, chapter 6.
    ∷ of_step C03 (λ step. is_unknown step.token)
    -- The command needs more numbers than there are. Type 1 Font Format, chapter 6.
    ∷ of_step C04 (λ step. has_too_few_arguments step.token step.stack)
    -- There are more numbers than the command's arguments. Type 1 Font Format, chapter 6.
    ∷ of_step C05 (λ step. has_too_many_arguments step.token step.stack)
    -- A 25th number comes to the stack. Type 1 Font Format, chapter 6.
    ∷ of_step C06 overflows
    -- An argument is past 32000. Type 1 Font Format, chapter 6.
    ∷ of_step C07 (λ step. has_argument_past step.token step.stack)
    -- A quotient is past 32000. Type 1 Font Format, chapter 6.
    ∷ of_step C08 divides_past
    -- A number is divided by 0. Own.
    ∷ of_step C09 divides_by_zero
    ∷ []

-- Calls of Subrs, and the ends of charstrings.
unfoldable pub call_rules : List StepRule
call_rules =
    -- The Subr that is called isn't there. Type 1 Font Format, chapter 6.
    of_step S01 calls_missing
    -- Ten calls are open already. Type 1 Font Format, chapter 6.
    ∷ of_step S02 calls_too_deep
    -- A return in the glyph's own charstring. Type 1 Font Format, chapter 6.
    ∷ of_step S03 returns_from_glyph
    -- A Subr ends without return. Type 1 Font Format, chapter 6.
    ∷ of_step S04 ends_in_subr
    -- The glyph ends without endchar or seac. Type 1 Font Format, chapter 6.
    ∷ of_step GE01 ends_in_glyph
    -- Tokens follow endchar or seac. Type 1 Font Format, chapter 6.
    ∷ of_step GE02 goes_on_past_end
    ∷ []

-- Widths and paths.
unfoldable pub path_rules : List StepRule
path_rules =
    -- The first command isn't hsbw or sbw. Type 1 Font Format, chapter 6.
    row W01 starts_without_width
    -- hsbw or sbw follows another command. Type 1 Font Format, chapter 6.
    ∷ row W02 sets_width_later
    -- Something is drawn with no move before it in its path. Type 1 Font Format, chapter 6.
    ∷ row P01 draws_unmoved
    -- A path isn't closed. Type 1 Font Format, chapter 6.
    ∷ row P02 leaves_open
    -- There is no path to close. Type 1 Font Format, chapter 6.
    ∷ row P03 closes_nothing
    ∷ []

-- Stem hints and their replacement.
unfoldable pub stem_rules : Edition → List StepRule
stem_rules edition =
    -- A stem after what it is a hint for. Type 1 Font Format, chapter 6.
    row H01 sets_stem_late
    -- Two stems of a hint set overlap. Type 1 Font Format, chapter 6.
    ∷ row H02 (sets_overlapping (overlap_by edition))
    -- A stem has no width. Type 1 Font Format, chapter 6.
    ∷ of_step H03 sets_without_width
    -- The three stems of hstem3 or vstem3 aren't equal. Type 1 Font Format, chapter 6.
    ∷ of_step H04 sets_unequal
    -- A hint replacement isn't followed by pop. Type 1 Font Format, chapter 8.
    ∷ row R01 leaves_out_pop
    -- Nor that pop by callsubr. Type 1 Font Format, chapter 8.
    ∷ row R02 leaves_out_call
    ∷ []

-- Flex.
unfoldable pub flex_rules : List StepRule
flex_rules =
    -- A flex starts inside one. Type 1 Font Format, chapter 8.
    row X01 starts_in_flex
    -- A point or an end without a start. Type 1 Font Format, chapter 8.
    ∷ row X02 goes_on_outside
    -- A command other than a move is inside. Type 1 Font Format, chapter 8.
    ∷ row X03 commands_in_flex
    -- The points aren't seven, each after its move. Type 1 Font Format, chapter 8.
    ∷ row X04 counts_no_pairs
    -- The end isn't at the current point. Type 1 Font Format, chapter 8.
    ∷ row X05 ends_elsewhere
    -- setcurrentpoint doesn't follow the two pops of an end. Type 1 Font Format, chapter 6.
    ∷ row X06 sets_point_alone
    ∷ []

-- Calls of OtherSubrs, and their results.
unfoldable pub othersubr_rules : List StepRule
othersubr_rules =
    -- The OtherSubr isn't one of the standard's. Type 1 Font Format, chapter 8.
    of_step O01 calls_unknown
    -- The count isn't that of arguments on the stack. Type 1 Font Format, chapter 6.
    ∷ of_step O02 has_bad_count
    -- The OtherSubr needs another count. Type 1 Font Format, chapter 8.
    ∷ of_step O03 has_wrong_count
    -- pop, and no result waits. Type 1 Font Format, chapter 6.
    ∷ of_step O04 pops_nothing
    ∷ []

-- Accented characters, by the glyph's own steps.
unfoldable pub seac_rules : List StepRule
seac_rules =
    -- A code isn't whole from 0 to 255. Type 1 Font Format, chapter 6.
    of_step K01 has_no_code
    -- A code has no name in StandardEncoding. Type 1 Font Format, chapter 6.
    ∷ of_step K02 has_unnamed_code
    -- The glyph has an outline of its own. Type 1 Font Format, chapter 6.
    ∷ row K06 stands_beside_outline
    ∷ []

-- Accented characters, by their components.
unfoldable pub component_rules : List Component → List StepRule
component_rules components =
    -- A component isn't in the font. Type 1 Font Format, chapter 6.
    of_step K03 (lacks_component components)
    -- A component is made by seac itself. Type 1 Font Format, chapter 6.
    ∷ of_step K04 (nests components)
    -- The accent has another left sidebearing than seac says. Type 1 Font Format, chapter 6.
    ∷ of_step K05 (differs_in_sidebearing components)
    -- A component has neither hsbw nor sbw. Type 1 Font Format, chapter 6.
    ∷ of_step K07 (lacks_sidebearing components)
    ∷ []

-- Thin stems, and stems beside three of one command.
unfoldable pub triple_rules : Edition → List StepRule
triple_rules edition =
    -- A stem is narrower than half a unit. Own.
    later_row edition H05 (λ before step. sets_thin step)
    -- The first stem of a command for one is behind one of a command for three, or the other way round. Type 1 Font
    -- Format, chapter 6.
    ∷ later_row edition H06 sets_beside
    -- Three stems aren't those of the last such command. Type 1 Font Format, chapter 6.
    ∷ later_row edition H07 sets_another
    ∷ []

-- Counter control, and calls before the width.
unfoldable pub counter_rules : Edition → List StepRule
counter_rules edition =
    -- Counter control comes behind something else than the width and counter control. Technical Note 5015.
    later_row edition O05 counts_late
    -- Counter control comes behind its end. Technical Note 5015.
    ∷ later_row edition O06 counts_again
    -- Counter control leaves numbers on the stack. Technical Note 5015.
    ∷ later_row edition O07 (λ before step. leaves_numbers step)
    -- Something else follows where counter control goes on. Technical Note 5015.
    ∷ later_row edition O08 leaves_counting
    -- Another OtherSubr is called before hsbw or sbw. Type 1 Font Format, chapter 6.
    ∷ later_row edition W03 calls_first
    ∷ []

-- The table of the rules that a glyph's own steps decide, in the order of the book.
unfoldable pub step_rules : Edition → List StepRule
step_rules edition =
    argument_rules
    ++ (call_rules ++ (path_rules ++ (stem_rules edition ++ (flex_rules ++ (othersubr_rules
    ++ (seac_rules ++ (triple_rules edition ++ counter_rules edition)))))))

-- All charstring rules, where the components of all codes are these.
unfoldable pub charstring_rules : Edition → List Component → List StepRule
charstring_rules edition components = step_rules edition ++ component_rules components

-- The rule of this number is one of these, and the step breaks it, given the steps before.
abbrev pub breaks : List StepRule → ℕ → List StepView → StepView → Bool
breaks rules n before step = list_any (λ r. r.is_broken before step && number_of r.rule == n) rules

-- The same of the step at a place of a list, given those before it; nothing is broken where there is none.
abbrev pub breaks_next : List StepRule → ℕ → List StepView → Option StepView → Bool
breaks_next rules n before None = false
breaks_next rules n before (Some step) = breaks rules n before step

abbrev pub breaks_at : List StepRule → ℕ → List StepView → ℕ → Bool
breaks_at rules n steps place = breaks_next rules n (take place steps) (slice_get steps place)
