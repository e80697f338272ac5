-- Laws of stems after what was drawn, and of hint replacement. Type 1 Font Format, chapters 6 and 8.
use Rattle.std.specs.Prelude.{◌≡◌, ℕ, ◌<◌, ◌↔◌, true, false, Some, List, [], ◌∷◌, ◌++◌, slice_get, take}
use Rattle.t1_char.specs.declared.command.Command.{Command as Commands}
use Rattle.t1_char.specs.declared.command.Command.TheVariants.{Callsubr, Hlineto, Hstem, Hstem3, Hvcurveto, Pop, Rlineto, Rrcurveto, Vhcurveto, Vlineto, Vstem, Vstem3}
use Rattle.t1_char.specs.declared.edition.Edition.{Edition}
use Rattle.t1_char.specs.Arguments.{is_flex_end, is_hint_replacement}
use Rattle.t1_char.specs.Steps.{StepView}
use Rattle.t1_rules.specs.declared.rule.Rule.TheVariants.{H01, R01, R02}
use Rattle.t1_rules.specs.Laws.StepRules.{violates}
use Rattle.t1_rules.specs.StepRules.Paths.{in_flex}
use Rattle.t1_rules.specs.StepRules.Tokens.{IsCommand}

-- ---- stems after what was drawn

pub data IsStem : Commands → Type 0 where
  hstem : IsStem Hstem
  vstem : IsStem Vstem
  hstem3 : IsStem Hstem3
  vstem3 : IsStem Vstem3

pub data IsLine : Commands → Type 0 where
  rlineto : IsLine Rlineto
  hlineto : IsLine Hlineto
  vlineto : IsLine Vlineto
  rrcurveto : IsLine Rrcurveto
  vhcurveto : IsLine Vhcurveto
  hvcurveto : IsLine Hvcurveto

-- A step draws: a line or a curve, or the end of a flex that was started.
pub data Draws (before : List StepView) (step : StepView) : Type 0 where
  by_line : (command : Commands) → IsCommand step command → IsLine command → Draws before step
  by_flex : is_flex_end step ≡ true → in_flex before ≡ true → Draws before step

-- At some place is a step that draws, and at no later one a hint replacement.
pub record IsDrawn (steps : List StepView) : Type 0 where
  pub place : ℕ
  pub step : StepView
  pub there : slice_get steps place ≡ Some step
  pub draws : Draws (take place steps) step
  pub lasts : (later : ℕ) (other : StepView) → place < later → slice_get steps later ≡ Some other →
      is_hint_replacement other ≡ false

-- A stem breaks H01 exactly after such steps; another command, and what is no command, never does.
abbrev pub StemsAreLateBehindDrawing : Type 0
StemsAreLateBehindDrawing =
    (edition : Edition) (before : List StepView) (step : StepView) (command : Commands) →
    IsCommand step command → IsStem command → (violates edition H01 before step ≡ true) ↔ IsDrawn before

abbrev pub StemsAloneAreLate : Type 0
StemsAloneAreLate =
    (edition : Edition) (before : List StepView) (step : StepView) →
    ((command : Commands) → IsStem command → IsCommand step command → ⊥) → violates edition H01 before step ≡ false

-- ---- hint replacement

-- The last step replaces hints, and the step after it isn't pop.
pub record LacksPop (before : List StepView) (step : StepView) : Type 0 where
  pub front : List StepView
  pub replacement : StepView
  pub ends : before ≡ front ++ replacement ∷ []
  pub replaces : is_hint_replacement replacement ≡ true
  pub no_pop : IsCommand step Pop → ⊥

-- The last steps are a hint replacement and pop, and the step after them isn't callsubr.
pub record LacksCallsubr (before : List StepView) (step : StepView) : Type 0 where
  pub front : List StepView
  pub replacement : StepView
  pub popping : StepView
  pub ends : before ≡ front ++ replacement ∷ popping ∷ []
  pub replaces : is_hint_replacement replacement ≡ true
  pub pops : IsCommand popping Pop
  pub no_call : IsCommand step Callsubr → ⊥

-- R01 and R02 are broken exactly there.
abbrev pub ReplacementsWantPop : Type 0
ReplacementsWantPop =
    (edition : Edition) (before : List StepView) (step : StepView) →
    (violates edition R01 before step ≡ true) ↔ LacksPop before step

abbrev pub ReplacementsWantCallsubr : Type 0
ReplacementsWantCallsubr =
    (edition : Edition) (before : List StepView) (step : StepView) →
    (violates edition R02 before step ≡ true) ↔ LacksCallsubr before step
