-- Laws of the table of charstring rules.
use Rattle.std.specs.Prelude.{◌≡◌, ℕ, ℤ, ◌<◌, ◌≤◌, ◌↔◌, ◌⊎◌, not, Bool, true, Some, List, [], ◌∷◌, ◌++◌, length, map}
use Rattle.std.specs.List.{range_with_len}
use Rattle.t1_char.specs.Arguments.{argument}
use Rattle.t1_char.specs.declared.edition.Edition.{Edition}
use Rattle.t1_char.specs.Editions.{has_later_rules}
use Rattle.t1_char.specs.Laws.Since.{IsSince}
use Rattle.t1_char.specs.Steps.{StepView, is_end}
use Rattle.t1_rules.specs.declared.rule.Rule.{Rule}
use Rattle.t1_rules.specs.declared.rule.Rule.TheVariants.{S04, GE01, W01}
use Rattle.t1_rules.specs.declared.sidebearings.Component.{Component}
use Rattle.t1_rules.specs.Book.{last_number_of_third, number_of}
use Rattle.t1_rules.specs.StepRules.{StepRule, component_rules, step_rules, breaks, breaks_at}
use Rattle.t1_rules.specs.StepRules.Arguments.{one_is_past}
use Rattle.t1_rules.specs.StepRules.Paths.{flex_start, flex_end, in_flex, outer_move, drawing, closing_step, is_moved, is_open}

-- The step breaks the rule, given the steps before it.
abbrev pub violates : Edition → Rule → List StepView → StepView → Bool
violates edition rule before step = breaks (step_rules edition) (number_of rule) before step

-- The rows have the numbers from 26 to 63, 67, and from 86 to 93, in order and each once; those on components 64 to
-- 66, and 68.
abbrev pub StepRuleNumbersAreInOrder : Type 0
StepRuleNumbersAreInOrder =
    (edition : Edition) → map (λ r. number_of r.rule) (step_rules edition) ≡ range_with_len 26 38 ++ 67 ∷ range_with_len 86 8

abbrev pub ComponentRuleNumbersAreInOrder : Type 0
ComponentRuleNumbersAreInOrder =
    (components : List Component) →
    map (λ r. number_of r.rule) (component_rules components) ≡ 64 ∷ 65 ∷ 66 ∷ 68 ∷ []

-- What a step breaks has one of these numbers: from 26 to 67, or from 86 on where the edition has the rules after
-- number 70.
abbrev pub BrokenStepsHaveTheseNumbers : Type 0
BrokenStepsHaveTheseNumbers =
    (edition : Edition) (n : ℕ) (before : List StepView) (step : StepView) →
    breaks (step_rules edition) n before step ≡ true →
    ((26 ≤ n) × (n ≤ 67)) ⊎ ((has_later_rules edition ≡ true) × ((86 ≤ n) × (n ≤ last_number_of_third)))

-- What is broken at a place of a list depends on the steps up to there alone, whatever the rules.
abbrev pub LaterStepsHaveNoSay : Type 0
LaterStepsHaveNoSay =
    (rules : List StepRule) (n : ℕ) (steps more : List StepView) (place : ℕ) → place < length steps →
    breaks_at rules n (steps ++ more) place ≡ breaks_at rules n steps place

-- An argument is the same whatever lies above it on the stack.
abbrev pub ArgumentsCountFromTheBottom : Type 0
ArgumentsCountFromTheBottom =
    (stack more : List ℤ) (place : ℕ) → place < length stack →
    argument (stack ++ more) place ≡ argument stack place

-- What lies above a command's arguments has no say in whether one of them is past the range.
abbrev pub SurplusNumbersAreNotPast : Type 0
SurplusNumbersAreNotPast =
    (count : ℕ) (stack more : List ℤ) → count ≤ length stack →
    one_is_past (Some count) (stack ++ more) ≡ one_is_past (Some count) stack

-- At the end of a charstring exactly one of the two is broken: it is a Subr's, or the glyph's.
abbrev pub EndsBreakOneRule : Type 0
EndsBreakOneRule =
    (edition : Edition) (before : List StepView) (step : StepView) → is_end step.token ≡ true →
    breaks (step_rules edition) (number_of S04) before step
    ≡ not (breaks (step_rules edition) (number_of GE01) before step)

-- The step at a place is the first command, and doesn't set the width; this is so of one step at most.
abbrev pub starts_at : Edition → List StepView → ℕ → Bool
starts_at edition steps place = breaks_at (step_rules edition) (number_of W01) steps place

abbrev pub OneStepStartsWithoutWidth : Type 0
OneStepStartsWithoutWidth =
    (edition : Edition) (steps : List StepView) (one other : ℕ) →
    starts_at edition steps one ≡ true → starts_at edition steps other ≡ true → one ≡ other

-- In flex: a start is at some place, and no end at a later one. Moved, and the path open: the same with a closepath.
abbrev pub FlexIsByPlaces : Type 0
FlexIsByPlaces = (steps : List StepView) → (in_flex steps ≡ true) ↔ IsSince flex_start flex_end steps

abbrev pub MovedIsByPlaces : Type 0
MovedIsByPlaces = (steps : List StepView) → (is_moved steps ≡ true) ↔ IsSince outer_move closing_step steps

abbrev pub OpenIsByPlaces : Type 0
OpenIsByPlaces = (steps : List StepView) → (is_open steps ≡ true) ↔ IsSince drawing closing_step steps
