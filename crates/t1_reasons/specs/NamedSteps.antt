-- Laws of the steps that reasons name: each is one that its rule speaks of.
use Rattle.std.specs.Prelude.{◌≡◌, ◌-◌, ℕ, Bool, true, false, Option, Some, None, List, option_map, slice_get}
use Rattle.t1_char.specs.declared.edition.Edition.{Edition}
use Rattle.t1_char.specs.declared.token.CharToken.{CharToken}
use Rattle.t1_char.specs.Since.{Test, last_of}
use Rattle.t1_char.specs.Steps.{StepView}
use Rattle.t1_rules.specs.declared.rule.Rule.{Rule}
use Rattle.t1_rules.specs.declared.rule.Rule.TheVariants.{W02, W03, P01, P03, H01, X01, X03, O05, O06, O08, K06}
use Rattle.t1_rules.specs.declared.sidebearings.Component.{Component}
use Rattle.t1_rules.specs.StepRules.Othersubrs.{calls_by_numbers}
use Rattle.t1_rules.specs.StepRules.Paths.{clearing_step, closing_step, drawing, flex_start}
use Rattle.t1_rules.specs.StepRules.Seac.{makes_outline}
use Rattle.t1_rules.specs.StepRules.Triples.{last_triple}
use Rattle.t1_reasons.specs.declared.reason.Reason.{Reason}
use Rattle.t1_reasons.specs.declared.reason.Reason.TheVariants.{Since}
use Rattle.t1_reasons.specs.Backgrounds.{counted_step, set_three, told_step, width_step}
use Rattle.t1_reasons.specs.Carried.{last_such, last_told}
use Rattle.t1_reasons.specs.Laws.{IsLastOf, NoneIsSuch}
use Rattle.t1_reasons.specs.StepReasons.{step_reason}

-- The kind of step that a rule's reason names.
abbrev pub names_step : Rule → Bool
names_step W02 = true
names_step W03 = true
names_step P01 = true
names_step P03 = true
names_step H01 = true
names_step X01 = true
names_step X03 = true
names_step O05 = true
names_step O06 = true
names_step O08 = true
names_step K06 = true
names_step _ = false

-- A call of an OtherSubr, whatever came before it.
abbrev pub calling_step : Test
calling_step before step = calls_by_numbers step

abbrev pub kind_named : Rule → Test
kind_named W02 = width_step
kind_named W03 = calling_step
kind_named P01 = closing_step
kind_named P03 = closing_step
kind_named H01 = drawing
kind_named X01 = flex_start
kind_named X03 = flex_start
kind_named O06 = counted_step
kind_named K06 = makes_outline
kind_named _ = told_step

-- A reason names the last step of a kind, or that there is none.
abbrev pub NamesLast : Test → List StepView → Reason → Type 0
NamesLast kind before (Since step) = IsLastOf kind before step
NamesLast kind before _ = ⊥

abbrev pub NamedStepsAreOfTheirKinds : Type 0
NamedStepsAreOfTheirKinds =
    (edition : Edition) (components : List Component) (rule : Rule) (before : List StepView) (step : StepView) (reason : Reason) →
    names_step rule ≡ true → step_reason edition components rule before step ≡ Some reason →
    NamesLast (kind_named rule) before reason

-- W03 speaks of clearing commands: where it has a reason, none came before.
abbrev pub NothingWasClearedYet : Type 0
NothingWasClearedYet =
    (edition : Edition) (components : List Component) (before : List StepView) (step : StepView) (reason : Reason) →
    step_reason edition components W03 before step ≡ Some reason → NoneIsSuch clearing_step before

-- A step by its number, from 1.
abbrev pub step_at : List StepView → Option ℕ → Option StepView
step_at steps None = None
step_at steps (Some number) = slice_get steps (number - 1)

-- The last step of a kind, by its number, is the one that the rule book calls the last.
abbrev pub LastStepsAreTheBooks : Type 0
LastStepsAreTheBooks = (kind : StepView → Bool) (steps : List StepView) → step_at steps (last_such (λ before s. kind s) steps) ≡ last_of kind steps

-- And so are the three stems of the last command for three.
abbrev pub LastThreeStemsAreTheBooks : Type 0
LastThreeStemsAreTheBooks = (kind : CharToken → Bool) (steps : List StepView) → option_map (λ t. t.triple) (last_told kind set_three steps) ≡ last_triple kind steps
