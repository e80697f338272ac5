-- What is carried from step to step: each step changes it, given the steps before.
use Rattle.std.specs.Prelude.{ℕ, ◌+◌, if◌then◌else◌, Bool, Option, Some, None, List, [], ◌∷◌, ◌++◌, length}
use Rattle.std.specs.Bool.{then_some}
use Rattle.std.specs.Option.{option_or}
use Rattle.t1_char.specs.declared.token.CharToken.{CharToken}
use Rattle.t1_char.specs.Since.{Test}
use Rattle.t1_char.specs.Steps.{StepView}

abbrev pub carried_from : {A : Type 0} → (A → List StepView → StepView → A) → A → List StepView → List StepView → A
carried_from next carried before [] = carried
carried_from next carried before (step ∷ steps) = carried_from next (next carried before step) (before ++ step ∷ []) steps

abbrev pub carried_over : {A : Type 0} → (A → List StepView → StepView → A) → A → List StepView → A
carried_over next start steps = carried_from next start [] steps

-- The number of the last such step, from 1; None where there is none.
abbrev pub last_on : Test → Option ℕ → List StepView → StepView → Option ℕ
last_on is_such last before step = if is_such before step then Some (length before + 1) else last

abbrev pub last_such : Test → List StepView → Option ℕ
last_such is_such steps = carried_over (last_on is_such) None steps

-- The number of the first such step, from 1; None where there is none.
abbrev pub first_on : Test → Option ℕ → List StepView → StepView → Option ℕ
first_on is_such first before step = option_or first (then_some (is_such before step) (length before + 1))

abbrev pub first_such : Test → List StepView → Option ℕ
first_such is_such steps = carried_over (first_on is_such) None steps

-- The last step with a token of a kind, as it is told of with its number; None where there is none.
abbrev pub last_told_on : {A : Type 0} → (CharToken → Bool) → (ℕ → StepView → A) → Option A → List StepView → StepView → Option A
last_told_on kind tell last before step = if kind step.token then Some (tell (length before + 1) step) else last

abbrev pub last_told : {A : Type 0} → (CharToken → Bool) → (ℕ → StepView → A) → List StepView → Option A
last_told kind tell steps = carried_over (last_told_on kind tell) None steps
