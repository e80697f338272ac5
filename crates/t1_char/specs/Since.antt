-- What came before a step. A test takes the steps before, and the step.
use Rattle.std.specs.Prelude.{ℕ, ◌&&◌, ◌||◌, not, if◌then◌else◌, Bool, false, Option, Some, None, List, [], ◌∷◌, ◌++◌, reverse, slice_get}
use Rattle.std.specs.List.{list_any}
use Rattle.t1_char.specs.Steps.{StepView}

abbrev pub Test : Type 0
Test = List StepView → StepView → Bool

-- One of the steps is such a step; front has the steps before them.
abbrev pub any_from : Test → List StepView → List StepView → Bool
any_from e front [] = false
any_from e front (s ∷ ss) = e front s || any_from e (front ++ s ∷ []) ss

-- One of the steps is such a step.
abbrev pub any_so_far : Test → List StepView → Bool
any_so_far e steps = any_from e [] steps

-- There is an a among the steps, and no b after it; front has the steps before them.
abbrev pub since_from : Test → Test → List StepView → List StepView → Bool
since_from a b front [] = false
since_from a b front (s ∷ ss) =
    (a front s && not (any_from b (front ++ s ∷ []) ss)) || since_from a b (front ++ s ∷ []) ss

-- There is an a among the steps, and no b after it.
abbrev pub since : Test → Test → List StepView → Bool
since a b steps = since_from a b [] steps

-- The last such step.
abbrev pub last_of : (StepView → Bool) → List StepView → Option StepView
last_of a [] = None
last_of a (s ∷ ss) = if list_any a ss then last_of a ss else (if a s then Some s else None)

-- The step so many places before the last one is there, and such.
abbrev pub is_some_such : (StepView → Bool) → Option StepView → Bool
is_some_such test None = false
is_some_such test (Some s) = test s

abbrev pub was : ℕ → (StepView → Bool) → List StepView → Bool
was k test before = is_some_such test (slice_get (reverse before) k)
