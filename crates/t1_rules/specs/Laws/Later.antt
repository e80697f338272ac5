-- Laws of the charstring rules after number 70: where editions differ by them, and of stems beside three of one command.
use Rattle.std.specs.Prelude.{◌≡◌, ℕ, ◌≤◌, Bool, true, false, Some, List, [], ◌∷◌, ◌++◌, slice_get, take}
use Rattle.t1_char.specs.declared.command.Command.{Command as Commands}
use Rattle.t1_char.specs.declared.edition.Edition.{Edition}
use Rattle.t1_char.specs.declared.edition.Edition.TheVariants.{Four, Three, Two}
use Rattle.t1_char.specs.Arguments.{is_hint_replacement}
use Rattle.t1_char.specs.Editions.{has_later_rules, has_latest_rules}
use Rattle.t1_char.specs.Steps.{StepView}
use Rattle.t1_font.specs.Fonts.{FontValue}
use Rattle.t1_rules.specs.declared.rule.Rule.{Rule}
use Rattle.t1_rules.specs.declared.rule.Rule.TheVariants.{H06, H07}
use Rattle.t1_rules.specs.Book.{last_number_before, last_number_of_third}
use Rattle.t1_rules.specs.Laws.Editions.{rules_in}
use Rattle.t1_rules.specs.Laws.StepRules.{violates}
use Rattle.t1_rules.specs.Laws.Stems.{AreOf}
use Rattle.t1_rules.specs.StepRules.{breaks}
use Rattle.t1_rules.specs.StepRules.Tokens.{is_command}

-- No step of a font breaks such a rule where the edition hasn't them.
abbrev pub EarlierEditionsBreakNoLaterRule : Type 0
EarlierEditionsBreakNoLaterRule =
    (edition : Edition) → has_later_rules edition ≡ false → (font : FontValue) (n : ℕ) (before : List StepView) (step : StepView) →
    breaks (rules_in edition font) n before step ≡ true → n ≤ last_number_before

-- Up to number 70 a step breaks in the third edition just what it breaks in the second.
abbrev pub ThirdAgreesWithSecond : Type 0
ThirdAgreesWithSecond =
    (font : FontValue) (n : ℕ) (before : List StepView) (step : StepView) → n ≤ last_number_before →
    breaks (rules_in Three font) n before step ≡ breaks (rules_in Two font) n before step

-- No step breaks a rule after number 93 where the edition hasn't them.
abbrev pub FirstThreeBreakNoLatestRule : Type 0
FirstThreeBreakNoLatestRule =
    (edition : Edition) → has_latest_rules edition ≡ false → (font : FontValue) (n : ℕ) (before : List StepView) (step : StepView) →
    breaks (rules_in edition font) n before step ≡ true → n ≤ last_number_of_third

-- Up to number 93 a step breaks in the fourth edition just what it breaks in the third.
abbrev pub FourthBreaksAsTheThird : Type 0
FourthBreaksAsTheThird =
    (font : FontValue) (n : ℕ) (before : List StepView) (step : StepView) → n ≤ last_number_of_third →
    breaks (rules_in Four font) n before step ≡ breaks (rules_in Three font) n before step

-- A hint replacement has no say in H06 and H07: they are on the whole glyph.
abbrev pub HasNoSay : Rule → Type 0
HasNoSay rule =
    (edition : Edition) (before : List StepView) (replacement step : StepView) → is_hint_replacement replacement ≡ true →
    violates edition rule (before ++ replacement ∷ []) step ≡ violates edition rule before step

abbrev pub ReplacementsHaveNoSay : Type 0
ReplacementsHaveNoSay = HasNoSay H06 × HasNoSay H07

-- A stem of a direction breaks H06 at this place.
pub record StandsBesideAt (edition : Edition) (direction : Commands → Bool) (steps : List StepView) (place : ℕ) : Type 0 where
  pub step : StepView
  pub there : slice_get steps place ≡ Some step
  pub sets : is_command direction step.token ≡ true
  pub broken : violates edition H06 (take place steps) step ≡ true

-- In each direction a glyph has one such place at most.
abbrev pub OneStemStandsBeside : Type 0
OneStemStandsBeside =
    (edition : Edition) (direction : Commands → Bool) (one three : Commands) (steps : List StepView) (place other : ℕ) →
    AreOf direction one three → StandsBesideAt edition direction steps place → StandsBesideAt edition direction steps other → place ≡ other
