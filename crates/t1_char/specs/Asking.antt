-- A call of a machine for a step, which may pass the numbers that come next.
use Rattle.std.specs.Prelude.{◌≡◌, ℕ, ◌≤◌, List}
use Rattle.t1_char.specs.declared.machine.Numbers.{Numbers}
use Rattle.t1_char.specs.declared.machine.Numbers.TheVariants.{Returned}
use Rattle.t1_char.specs.Editions.{limit_of}
use Rattle.t1_char.specs.Passing.{ArePassed}
use Rattle.t1_char.specs.Steps.{StepView, steps_of}
use Rattle.t1_char.specs.Turns.{MachineView, TurnValue, counted_after, turn_at}

-- Called after n calls, it passed numbers until it was after some steps, and none where each number is returned. It
-- then returns what the call after so many calls returns, and the calls are one more than these.
pub record IsAskedBehind (numbers : Numbers) (limit : ℕ) (steps : List StepView) (n calls : ℕ) (answer : TurnValue) : Type 0 where
  pub before : ℕ
  pub least : n ≤ before
  pub passed : ArePassed limit steps n before
  pub returned : numbers ≡ Returned → before ≡ n
  pub turn : answer ≡ turn_at limit steps before
  pub counted : calls ≡ counted_after limit steps before

abbrev pub IsAsked : Numbers → MachineView → MachineView → TurnValue → Type 0
IsAsked numbers old new answer =
    IsAskedBehind numbers (limit_of old.edition) (steps_of old.font old.glyph) old.counted new.counted answer
