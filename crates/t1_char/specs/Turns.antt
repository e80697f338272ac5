-- A glyph that is executed one step a call. Type 1 Font Format 1.1, chapters 6 and 8.
use Rattle.std.specs.Prelude.{ℕ, ◌+◌, nat_lt, Bool, if◌then◌else◌, Option, Some, None, List, length, take, slice_get}
use Rattle.t1_font.specs.Fonts.{FontValue}
use Rattle.t1_char.specs.declared.edition.Edition.{Edition}
use Rattle.t1_char.specs.Steps.{StepView, NumberedStep}

-- A machine: what it executes and by which edition, how many steps were requested, and its current step.
pub record MachineView : Type 0 where
  pub font : FontValue
  pub glyph : ℕ
  pub edition : Edition
  pub counted : ℕ
  pub step : NumberedStep

-- What it returns: the next step; that there is none; the first step past the limit.
pub data TurnValue : Type 0 where
  stepped : NumberedStep → TurnValue
  ended : TurnValue
  limited : NumberedStep → TurnValue

abbrev pub step_of_number : ℕ → StepView → NumberedStep
step_of_number n step = record { number = n; step = step }

-- The step after the first n, and the first one past the limit; the end where there is none.
abbrev pub step_or_end : ℕ → Option StepView → TurnValue
step_or_end n None = ended
step_or_end n (Some step) = stepped (step_of_number (n + 1) step)

abbrev pub limit_or_end : ℕ → Option StepView → TurnValue
limit_or_end n None = ended
limit_or_end n (Some step) = limited (step_of_number (n + 1) step)

-- How many steps are returned: those up to the limit.
abbrev pub answered : ℕ → List StepView → ℕ
answered limit steps = length (take limit steps)

-- The end or the limit was returned, by one of n calls.
abbrev pub is_returned : ℕ → List StepView → ℕ → Bool
is_returned limit steps n = nat_lt (answered limit steps) n

-- What the call after n of them returns: a step, where one is left; then the limit or the end, again and again.
abbrev pub turn_at : ℕ → List StepView → ℕ → TurnValue
turn_at limit steps n =
    if nat_lt n (answered limit steps) then step_or_end n (slice_get steps n) else limit_or_end limit (slice_get steps limit)

-- How many calls there were after one more, up to the first that returned the end or the limit.
abbrev pub counted_after : ℕ → List StepView → ℕ → ℕ
counted_after limit steps n = if is_returned limit steps n then n else n + 1
