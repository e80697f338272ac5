-- Laws of the numbers that commands need and take. Type 1 Font Format, chapter 6.
use Rattle.std.specs.Prelude.{◌≡◌, ℕ, ℤ, ◌<◌, ◌↔◌, true, false, Some, None, List, length}
use Rattle.t1_char.specs.declared.command.Command.{Command as Commands}
use Rattle.t1_char.specs.declared.command.Command.TheVariants.{Callothersubr, Callsubr, Div, Pop, Return}
use Rattle.t1_char.specs.declared.edition.Edition.{Edition}
use Rattle.t1_char.specs.declared.token.CharToken.TheVariants.{Number}
use Rattle.t1_char.specs.Commands.{arguments_of}
use Rattle.t1_char.specs.Numbers.{clamped}
use Rattle.t1_char.specs.Steps.{StepView}
use Rattle.t1_rules.specs.declared.rule.Rule.TheVariants.{C04, C05, C06}
use Rattle.t1_rules.specs.Laws.StepRules.{violates}
use Rattle.t1_rules.specs.StepRules.Arguments.{is_past}
use Rattle.t1_rules.specs.StepRules.Tokens.{IsCommand}
use Rattle.t1_char.specs.Stacks.{most_numbers}

-- A number is past the range exactly where it isn't kept as it is.
abbrev pub KeptIsNotPast : Type 0
KeptIsNotPast = (z : ℤ) → (clamped z ≡ z) ↔ (is_past z ≡ false)

-- How many numbers a command needs on the stack: one per argument. Those that take theirs from the top need
-- two, one or none.
pub data Wants : Commands → ℕ → Type 0 where
  arguments : (command : Commands) (count : ℕ) → arguments_of command ≡ Some count → Wants command count
  div : Wants Div 2
  callothersubr : Wants Callothersubr 2
  callsubr : Wants Callsubr 1
  pop : Wants Pop 0
  return : Wants Return 0

-- A command breaks C04 exactly where fewer numbers are on the stack.
abbrev pub TooFewAreFewerThanWanted : Type 0
TooFewAreFewerThanWanted =
    (edition : Edition) (before : List StepView) (step : StepView) (command : Commands) (count : ℕ) →
    IsCommand step command → Wants command count →
    (violates edition C04 before step ≡ true) ↔ (length step.stack < count)

-- One that takes its arguments from the bottom breaks C05 exactly where more are there; another never does.
abbrev pub TooManyAreMoreThanArguments : Type 0
TooManyAreMoreThanArguments =
    (edition : Edition) (before : List StepView) (step : StepView) (command : Commands) (count : ℕ) →
    IsCommand step command → arguments_of command ≡ Some count →
    (violates edition C05 before step ≡ true) ↔ (count < length step.stack)

abbrev pub NoneAreTooManyAtTheTop : Type 0
NoneAreTooManyAtTheTop =
    (edition : Edition) (before : List StepView) (step : StepView) (command : Commands) →
    IsCommand step command → arguments_of command ≡ None → violates edition C05 before step ≡ false

-- What is no command breaks neither.
pub record HasNoArguments (edition : Edition) (before : List StepView) (step : StepView) : Type 0 where
  pub few : violates edition C04 before step ≡ false
  pub many : violates edition C05 before step ≡ false

abbrev pub OthersHaveNoArguments : Type 0
OthersHaveNoArguments =
    (edition : Edition) (before : List StepView) (step : StepView) →
    ((command : Commands) → IsCommand step command → ⊥) → HasNoArguments edition before step

-- A step brings a number to the stack: a number, or pop where a result waits.
pub data Brings (step : StepView) : Type 0 where
  number : (z : ℤ) → step.token ≡ Number z → Brings step
  result : IsCommand step Pop → 0 < step.waiting → Brings step

-- C06 is broken exactly where such a step comes to 24 numbers.
abbrev pub NumbersOverflowAt24 : Type 0
NumbersOverflowAt24 =
    (edition : Edition) (before : List StepView) (step : StepView) →
    (violates edition C06 before step ≡ true) ↔ (Brings step × (length step.stack ≡ most_numbers))
