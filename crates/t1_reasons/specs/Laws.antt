-- Laws of reasons.
use Rattle.std.specs.Prelude.{◌≡◌, ◌↔◌, ◌==◌, ℕ, ℤ, ◌-ℤ◌, ◌≤ℤ◌, Bool, true, false, is_some, Some, List, map, ◌+◌, ◌<◌, Option, None, slice_get, take}
use Rattle.std.specs.List.{Contains, list_any}
use Rattle.t1_char.specs.declared.command.Command.{Command as Commands}
use Rattle.t1_char.specs.declared.edition.Edition.{Edition}
use Rattle.t1_char.specs.Since.{Test}
use Rattle.t1_char.specs.Steps.{StepView}
use Rattle.t1_font.specs.Fonts.{FontValue}
use Rattle.t1_rules.specs.declared.rule.Rule.{Rule}
use Rattle.t1_rules.specs.declared.sidebearings.Component.{Component}
use Rattle.t1_rules.specs.Book.{number_of}
use Rattle.t1_rules.specs.FontRules.{font_rules, violated}
use Rattle.t1_rules.specs.StepRules.{breaks, charstring_rules}
use Rattle.t1_rules.specs.StepRules.Stems.{hint_set}
use Rattle.t1_reasons.specs.declared.reason.Reason.{Reason}
use Rattle.t1_reasons.specs.declared.reason.Reason.TheVariants.{Nothing, Zone}
use Rattle.t1_reasons.specs.FontReasons.{font_reason, font_row_of, font_rules_that_only_tell, reaches_one, scale_for}
use Rattle.t1_reasons.specs.Carried.{last_such}
use Rattle.t1_reasons.specs.HintSets.{stems_set}
use Rattle.t1_reasons.specs.StepReasons.{row_of, rules_that_only_tell, step_reason}

-- A step breaks a rule exactly where it has a reason.
abbrev pub StepsBreakWhereThereIsAReason : Type 0
StepsBreakWhereThereIsAReason =
    (edition : Edition) (components : List Component) (rule : Rule) (before : List StepView) (step : StepView) →
    breaks (charstring_rules edition components) (number_of rule) before step
    ≡ is_some (step_reason edition components rule before step)

-- A reason is one of the candidates, and its own numbers are against the rule.
pub record IsReason (edition : Edition) (components : List Component) (rule : Rule) (before : List StepView) (step : StepView) (reason : Reason) : Type 0 where
  pub there : Contains ((row_of edition components rule).candidates before step) reason
  pub against : (row_of edition components rule).is_against reason ≡ true

abbrev pub ReasonsAreAgainstTheirRules : Type 0
ReasonsAreAgainstTheirRules =
    (edition : Edition) (components : List Component) (rule : Rule) (before : List StepView) (step : StepView) (reason : Reason) →
    step_reason edition components rule before step ≡ Some reason →
    IsReason edition components rule before step reason

-- Only the rules that compare nothing have a test that takes a reason without numbers.
abbrev pub is_among : List Rule → Rule → Bool
is_among rules rule = list_any (λ r. number_of r == number_of rule) rules

abbrev pub OthersCompareNumbers : Type 0
OthersCompareNumbers =
    (edition : Edition) (components : List Component) (rule : Rule) →
    (row_of edition components rule).is_against Nothing ≡ is_among rules_that_only_tell rule

-- A font breaks a rule at a key and an index exactly where it has a reason.
abbrev pub FontsBreakWhereThereIsAReason : Type 0
FontsBreakWhereThereIsAReason =
    (edition : Edition) (font : FontValue) (rule : Rule) (key index : ℕ) →
    violated (font_rules edition) (number_of rule) font key index ≡ is_some (font_reason edition font rule key index)

-- The same of reasons of a font.
pub record IsFontReason (edition : Edition) (font : FontValue) (rule : Rule) (key index : ℕ) (reason : Reason) : Type 0 where
  pub there : Contains ((font_row_of edition rule).candidates font key index) reason
  pub against : (font_row_of edition rule).is_against reason ≡ true

abbrev pub FontReasonsAreAgainstTheirRules : Type 0
FontReasonsAreAgainstTheirRules =
    (edition : Edition) (font : FontValue) (rule : Rule) (key index : ℕ) (reason : Reason) → font_reason edition font rule key index ≡ Some reason →
    IsFontReason edition font rule key index reason

abbrev pub OthersCompareNumbersInFonts : Type 0
OthersCompareNumbersInFonts =
    (edition : Edition) (rule : Rule) → (font_row_of edition rule).is_against Nothing ≡ true →
    is_among font_rules_that_only_tell rule ≡ true

-- The BlueScale that would do does, and no greater one.
abbrev pub ScalesDo : Type 0
ScalesDo =
    (lower upper scale : ℤ) → scale_for (upper -ℤ lower) ≡ Some scale →
    (s : ℤ) → (reaches_one (Zone lower upper s) ≡ false) ↔ (s ≤ℤ scale)

-- The hint sets with the steps that set them are those of the rule book.
abbrev pub HintSetsAreThoseOfTheBook : Type 0
HintSetsAreThoseOfTheBook =
    (direction : Commands → Bool) (before : List StepView) → map (λ s. s.stem) (stems_set direction before) ≡ hint_set direction before

-- No step is such.
abbrev pub NoneIsSuch : Test → List StepView → Type 0
NoneIsSuch is_such steps = (place : ℕ) (step : StepView) → slice_get steps place ≡ Some step → is_such (take place steps) step ≡ false

-- The step of this number, from 1, is such, and none after it.
pub record IsLastSuch (is_such : Test) (steps : List StepView) (number : ℕ) : Type 0 where
  pub place : ℕ
  pub step : StepView
  pub number_is : number ≡ place + 1
  pub there : slice_get steps place ≡ Some step
  pub such : is_such (take place steps) step ≡ true
  pub last : (later : ℕ) (s : StepView) → place < later → slice_get steps later ≡ Some s → is_such (take later steps) s ≡ false

abbrev pub IsLastOf : Test → List StepView → Option ℕ → Type 0
IsLastOf is_such steps None = NoneIsSuch is_such steps
IsLastOf is_such steps (Some number) = IsLastSuch is_such steps number

-- The step that a reason names is the last of its kind. Where it names none, there was none.
abbrev pub ToldStepsAreTheLast : Type 0
ToldStepsAreTheLast = (is_such : Test) (steps : List StepView) → IsLastOf is_such steps (last_such is_such steps)
