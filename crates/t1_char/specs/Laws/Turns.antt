-- Laws of what a machine returns, call by call.
use Rattle.std.specs.Prelude.{◌≡◌, ℕ, ◌+◌, ◌<◌, ◌≤◌, Bool, true, false, Some, List, length, slice_get}
use Rattle.t1_char.specs.Steps.{StepView}
use Rattle.t1_char.specs.Turns.{TurnValue, stepped, ended, limited, step_of_number, turn_at, counted_after}

-- The calls up to the limit return the steps, one after another, each with its number, and are counted.
abbrev pub StepsAreReturned : Type 0
StepsAreReturned = (limit : ℕ) (steps : List StepView) (n : ℕ) (step : StepView) → n < limit → slice_get steps n ≡ Some step →
    (turn_at limit steps n ≡ stepped (step_of_number (n + 1) step)) × (counted_after limit steps n ≡ n + 1)

-- After the last of them the end is returned, where there is no step past the limit.
abbrev pub EndsAreReturned : Type 0
EndsAreReturned = (limit : ℕ) (steps : List StepView) → length steps ≤ limit →
    turn_at limit steps (length steps) ≡ ended

-- Where there is one, that step is returned as the limit.
abbrev pub LimitsAreReturned : Type 0
LimitsAreReturned = (limit : ℕ) (steps : List StepView) (step : StepView) → slice_get steps limit ≡ Some step →
    turn_at limit steps limit ≡ limited (step_of_number (limit + 1) step)

-- A result after which there is no other.
abbrev pub is_last_answer : TurnValue → Bool
is_last_answer (stepped _) = false
is_last_answer ended = true
is_last_answer (limited _) = true

-- After an end or a limit the next call returns the same again, and the count of calls stays.
abbrev pub LastAnswersAreReturnedAgain : Type 0
LastAnswersAreReturnedAgain = (limit : ℕ) (steps : List StepView) (n : ℕ) → is_last_answer (turn_at limit steps n) ≡ true →
    (turn_at limit steps (counted_after limit steps n) ≡ turn_at limit steps n)
    × (counted_after limit steps (counted_after limit steps n) ≡ counted_after limit steps n)
