-- What is kept of the steps before one.
use Rattle.std.specs.Prelude.{◌≡◌, if◌then◌else◌, Bool, ℕ, List, [], ◌++◌, length, take}
use Rattle.t1_char.specs.declared.command.Command.{Command as Commands}
use Rattle.t1_char.specs.declared.edition.Edition.{Edition}
use Rattle.t1_char.specs.Arguments.{is_hint_replacement}
use Rattle.t1_char.specs.Steps.{StepView}
use Rattle.t1_reasons.specs.declared.hint_sets.HintSets.{HintSets}
use Rattle.t1_reasons.specs.declared.reason.SetStem.{SetStem}
use Rattle.t1_reasons.specs.HintSets.{all_set_at, stems_set}
use Rattle.t1_reasons.specs.declared.steps_before.StepsBefore.{StepsBefore}
use Rattle.t1_reasons.specs.Backgrounds.{background_of}
use Rattle.t1_rules.specs.Private.Standing.{FlexStandsFor}
use Rattle.t1_rules.specs.StepRules.Stems.{lies_across, most_stems, stands_upright, stems_of}
use Rattle.t1_rules.specs.StepRules.Tokens.{is_command}

pub record HintsStandFor (hints : HintSets) (before : List StepView) : Type 0 where
  pub across : hints.across.items ≡ stems_set lies_across before
  pub upright : hints.upright.items ≡ stems_set stands_upright before
  pub seen : hints.seen ≡ length before

-- A hint set after a step, by what it was before, and whether the step sets stems in its direction.
abbrev pub kept_along : Bool → ℕ → List SetStem → StepView → List SetStem
kept_along sets number kept step =
    if is_hint_replacement step then []
    else (if sets then take most_stems (kept ++ all_set_at number (stems_of step)) else kept)

abbrev pub set_after : (Commands → Bool) → ℕ → List SetStem → StepView → List SetStem
set_after direction number kept step = kept_along (is_command direction step.token) number kept step

pub record StepsStandFor (edition : Edition) (kept : StepsBefore) (before : List StepView) : Type 0 where
  pub edition_is : kept.edition ≡ edition
  pub hints : HintsStandFor kept.hints before
  pub flex : FlexStandsFor kept.flex before
  pub background : kept.background ≡ background_of before
