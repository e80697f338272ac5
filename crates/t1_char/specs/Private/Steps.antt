-- The steps that were listed so far, of those that were requested.
use Rattle.std.specs.Prelude.{◌≡◌, ℕ, ◌<◌, ◌++◌, Bool, List, length, map, take}
use Rattle.t1_char.specs.declared.step.Step.{Step}
use Rattle.t1_char.specs.Effects.{State}
use Rattle.t1_char.specs.Steps.{StepView, Run, numbered}
use Rattle.t1_char.specs.StepValues.{step_view, step_value}

-- The steps are numbered from 1.
abbrev pub AreNumbered : List Step → Type 0
AreNumbered steps = map step_value steps ≡ numbered 1 (map step_view steps)

-- To the steps of front those of a run were added, until there were so many.
pub record IsExpanded (most : ℕ) (front : List StepView) (run : Run) (steps : List StepView) (finished : Bool) (state : State)
    : Type 0 where
  pub steps_are : steps ≡ take most (front ++ run.steps)
  pub finished_is : length steps < most → finished ≡ run.finished
  pub state_is : length steps < most → state ≡ run.state

-- Of a run some steps were added, and the rest is still to come.
pub record GoesOn (front : List StepView) (run : Run) (steps : List StepView) (rest : Run) : Type 0 where
  pub steps_are : front ++ run.steps ≡ steps ++ rest.steps
  pub finished_is : run.finished ≡ rest.finished
  pub state_is : run.state ≡ rest.state
