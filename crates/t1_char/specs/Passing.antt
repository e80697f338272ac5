-- Steps that a machine can pass: numbers that the stack has room for.
use Rattle.std.specs.Prelude.{◌≡◌, ℕ, ◌<◌, ◌≤◌, ◌&&◌, nat_lt, Bool, true, Some, List, length, slice_get}
use Rattle.t1_char.specs.Stacks.{most_numbers}
use Rattle.t1_char.specs.Steps.{StepView, is_number}

-- A number that doesn't come to a full stack.
abbrev pub is_kept_number : StepView → Bool
is_kept_number step = is_number step.token && nat_lt (length step.stack) most_numbers

-- After n steps is such a number, within the limit.
pub record IsPassed (limit : ℕ) (steps : List StepView) (n : ℕ) : Type 0 where
  pub step : StepView
  pub there : slice_get steps n ≡ Some step
  pub kept : is_kept_number step ≡ true
  pub near : n < limit

-- All steps after the first n, up to m, are such numbers.
abbrev pub ArePassed : ℕ → List StepView → ℕ → ℕ → Type 0
ArePassed limit steps n m = (k : ℕ) → n ≤ k → k < m → IsPassed limit steps k
