-- Laws of the stems that reasons name beside one of the step's own: of which direction, which command and which place they are.
use Rattle.std.specs.Prelude.{◌≡◌, ◌⊎◌, ◌+◌, ℕ, Bool, true, false, Some, List, [], ◌∷◌, ◌++◌, slice_get}
use Rattle.std.specs.List.{Contains}
use Rattle.t1_char.specs.declared.command.Command.{Command as Commands}
use Rattle.t1_char.specs.declared.command.Command.TheVariants.{Hstem, Hstem3, Vstem, Vstem3}
use Rattle.t1_char.specs.declared.edition.Edition.{Edition}
use Rattle.t1_char.specs.declared.token.CharToken.{CharToken}
use Rattle.t1_char.specs.declared.token.CharToken.TheVariants.{Command}
use Rattle.t1_char.specs.Steps.{StepView}
use Rattle.t1_rules.specs.declared.rule.Rule.{Rule}
use Rattle.t1_rules.specs.declared.rule.Rule.TheVariants.{H02, H06, H07}
use Rattle.t1_rules.specs.declared.sidebearings.Component.{Component}
use Rattle.t1_rules.specs.declared.step_rules.stems.Stem.{Stem}
use Rattle.t1_rules.specs.StepRules.Stems.{lies_across, stands_upright, stem_at, stems_in}
use Rattle.t1_rules.specs.StepRules.Triples.{is_hstem, is_hstem3, is_vstem, is_vstem3}
use Rattle.t1_reasons.specs.declared.reason.Reason.{Reason}
use Rattle.t1_reasons.specs.declared.reason.Reason.TheVariants.{Stems}
use Rattle.t1_reasons.specs.declared.reason.SetStem.{SetStem}
use Rattle.t1_reasons.specs.HintSets.{stems_set}
use Rattle.t1_reasons.specs.Laws.{IsLastSuch}
use Rattle.t1_reasons.specs.StepReasons.{own_stems, step_reason}

-- A stem was set in a direction by the step of its number, from 1.
pub record IsSetAt (direction : Commands → Bool) (steps : List StepView) (set : SetStem) : Type 0 where
  pub place : ℕ
  pub step : StepView
  pub number_is : set.step ≡ place + 1
  pub there : slice_get steps place ≡ Some step
  pub sets : Contains (stems_in direction step) set.stem

-- Two stems of a direction: the step sets one; the other is of the hint set before it, or the step's own too.
pub record AreOfOneSet (direction : Commands → Bool) (before : List StepView) (step : StepView) (own : Stem) (other : SetStem) : Type 0 where
  pub own_is : Contains (stems_in direction step) own
  pub other_is : IsSetAt direction (before ++ step ∷ []) other
  pub kept : Contains (stems_set direction before ++ own_stems before step) other

-- Two stems that begin at the same argument: of the step, and of the last step before it with a command of a kind.
pub record AreInOnePlace (kind : CharToken → Bool) (place : ℕ) (before : List StepView) (step : StepView) (own : Stem) (other : SetStem) : Type 0 where
  pub own_is : own ≡ stem_at step.stack place
  pub last : IsLastSuch (λ front s. kind s.token) before other.step
  pub other_is : other.stem ≡ stem_at last.step.stack place

-- The other command of the same direction: that for three stems beside that for one.
abbrev pub is_other_command : CharToken → CharToken → Bool
is_other_command (Command Hstem) token = is_hstem3 token
is_other_command (Command Hstem3) token = is_hstem token
is_other_command (Command Vstem) token = is_vstem3 token
is_other_command (Command Vstem3) token = is_vstem token
is_other_command _ token = false

-- The same command, for three stems.
abbrev pub is_same_command : CharToken → CharToken → Bool
is_same_command (Command Hstem3) token = is_hstem3 token
is_same_command (Command Vstem3) token = is_vstem3 token
is_same_command _ token = false

-- Where three stems begin among the arguments.
abbrev pub places_of_three : List ℕ
places_of_three = 0 ∷ 2 ∷ 4 ∷ []

-- What the rules name: H02 a stem of the same direction; H06 the first stem of the last step with the other command; H07 the stem that the
-- last step with the same command has in the own one's place.
abbrev pub NamesOfSet : List StepView → StepView → Reason → Type 0
NamesOfSet before step (Stems own other) = AreOfOneSet lies_across before step own other ⊎ AreOfOneSet stands_upright before step own other
NamesOfSet before step _ = ⊥

abbrev pub NamesOfOther : CharToken → List StepView → StepView → Reason → Type 0
NamesOfOther token before step (Stems own other) = AreInOnePlace (is_other_command token) 0 before step own other
NamesOfOther token before step _ = ⊥

abbrev pub NamesOfThree : CharToken → List StepView → StepView → Reason → Type 0
NamesOfThree token before step (Stems own other) =
    (place : ℕ) × (Contains places_of_three place × AreInOnePlace (is_same_command token) place before step own other)
NamesOfThree token before step _ = ⊥

abbrev pub names_stem : Rule → Bool
names_stem H02 = true
names_stem H06 = true
names_stem H07 = true
names_stem _ = false

abbrev pub NamesStem : Rule → List StepView → StepView → Reason → Type 0
NamesStem H02 before step reason = NamesOfSet before step reason
NamesStem H06 before step reason = NamesOfOther step.token before step reason
NamesStem H07 before step reason = NamesOfThree step.token before step reason
NamesStem _ before step reason = ⊥

abbrev pub NamedStemsAreSet : Type 0
NamedStemsAreSet =
    (edition : Edition) (components : List Component) (rule : Rule) (before : List StepView) (step : StepView) (reason : Reason) →
    names_stem rule ≡ true → step_reason edition components rule before step ≡ Some reason →
    NamesStem rule before step reason
