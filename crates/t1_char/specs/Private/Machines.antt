-- The state of a machine.
use Rattle.std.specs.Prelude.{◌≡◌, ℕ, ◌≤◌, ◌+◌, List, ◌∷◌, length, drop}
use Rattle.t1_font.specs.Fonts.{FontValue}
use Rattle.t1_char.specs.declared.frames.Frames.{Frames}
use Rattle.t1_char.specs.declared.machine.Answer.{Answer}
use Rattle.t1_char.specs.declared.machine.Answer.TheVariants.{Step, Ended, Limit}
use Rattle.t1_char.specs.Steps.{StepView}
use Rattle.t1_char.specs.StepValues.{step_value}
use Rattle.t1_char.specs.Turns.{TurnValue, ended, limited, turn_at, counted_after}
use Rattle.t1_char.specs.Private.Frames.{IsReady, steps_from, steps_behind, step_here}

-- After n steps the run goes on with the others.
pub record GoesOnFrom (limit : ℕ) (steps : List StepView) (font : FontValue) (n : ℕ) (f : Frames) : Type 0 where
  pub ready : IsReady font f
  pub steps_are : steps_from font f ≡ step_here font f ∷ drop n steps
  pub near : n ≤ limit
  pub within : n ≤ length steps

-- The same where the current step was executed, and the next isn't read yet.
pub record IsBehind (limit : ℕ) (steps : List StepView) (font : FontValue) (n : ℕ) (f : Frames) : Type 0 where
  pub even : length f.step.path.items ≡ length f.callers.items
  pub steps_are : steps_behind font f ≡ drop n steps
  pub near : n ≤ limit
  pub within : n ≤ length steps

-- The result of the last call is that of the next, and the count stays.
pub record Repeats (limit : ℕ) (steps : List StepView) (n : ℕ) (turn : TurnValue) : Type 0 where
  pub again : turn_at limit steps n ≡ turn
  pub stays : counted_after limit steps n ≡ n
  pub most : n ≤ limit + 1

abbrev pub IsAt : ℕ → List StepView → FontValue → ℕ → Answer → Frames → Type 0
IsAt limit steps font n Step f = GoesOnFrom limit steps font n f
IsAt limit steps font n Ended f = Repeats limit steps n ended
IsAt limit steps font n Limit f = Repeats limit steps n (limited (step_value f.step))
