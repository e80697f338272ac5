-- Short forms of moves, lines and curves. Type 1 Font Format 1.1, 6.4.
use Rattle.std.specs.Prelude.{◌≡◌, ℤ, pos, List, [], ◌∷◌}
use Rattle.t1_char.specs.declared.command.Command.{Command as Commands}
use Rattle.t1_char.specs.declared.command.Command.TheVariants.{Hlineto, Hmoveto, Hvcurveto, Rlineto, Rmoveto, Rrcurveto, Vhcurveto, Vlineto, Vmoveto}
use Rattle.t1_char.specs.declared.token.CharToken.TheVariants.{Command}
use Rattle.t1_char.specs.Steps.{StepView}
use Rattle.t1_outline.specs.Outlines.{drawn, stroke_by}
use Rattle.t1_rules.specs.declared.step_rules.flex.Point.{Point}

-- Each short form draws from a point what its full form in the standard draws.
pub record DrawAlike (start : Point) (a b c d : ℤ) : Type 0 where
  pub hlineto : stroke_by start (a ∷ []) Hlineto ≡ stroke_by start (a ∷ pos 0 ∷ []) Rlineto
  pub vlineto : stroke_by start (a ∷ []) Vlineto ≡ stroke_by start (pos 0 ∷ a ∷ []) Rlineto
  pub vhcurveto :
      stroke_by start (a ∷ b ∷ c ∷ d ∷ []) Vhcurveto ≡ stroke_by start (pos 0 ∷ a ∷ b ∷ c ∷ d ∷ pos 0 ∷ []) Rrcurveto
  pub hvcurveto :
      stroke_by start (a ∷ b ∷ c ∷ d ∷ []) Hvcurveto ≡ stroke_by start (a ∷ pos 0 ∷ b ∷ c ∷ pos 0 ∷ d ∷ []) Rrcurveto

abbrev pub ShortFormsDrawAlike : Type 0
ShortFormsDrawAlike = (start : Point) (a b c d : ℤ) → DrawAlike start a b c d

-- The step as it is with another command and its arguments.
abbrev pub with_command : StepView → Commands → List ℤ → StepView
with_command step command arguments = record step { token = Command command; stack = arguments }

-- And so each step that has a short form draws, after any steps, what it draws with the full one.
pub record StepsDrawAlike (before : List StepView) (step : StepView) (a b c d : ℤ) : Type 0 where
  pub hmoveto :
      drawn before (with_command step Hmoveto (a ∷ [])) ≡ drawn before (with_command step Rmoveto (a ∷ pos 0 ∷ []))
  pub vmoveto :
      drawn before (with_command step Vmoveto (a ∷ [])) ≡ drawn before (with_command step Rmoveto (pos 0 ∷ a ∷ []))
  pub hlineto :
      drawn before (with_command step Hlineto (a ∷ [])) ≡ drawn before (with_command step Rlineto (a ∷ pos 0 ∷ []))
  pub vlineto :
      drawn before (with_command step Vlineto (a ∷ [])) ≡ drawn before (with_command step Rlineto (pos 0 ∷ a ∷ []))
  pub vhcurveto :
      drawn before (with_command step Vhcurveto (a ∷ b ∷ c ∷ d ∷ []))
      ≡ drawn before (with_command step Rrcurveto (pos 0 ∷ a ∷ b ∷ c ∷ d ∷ pos 0 ∷ []))
  pub hvcurveto :
      drawn before (with_command step Hvcurveto (a ∷ b ∷ c ∷ d ∷ []))
      ≡ drawn before (with_command step Rrcurveto (a ∷ pos 0 ∷ b ∷ c ∷ pos 0 ∷ d ∷ []))

abbrev pub ShortStepsDrawAlike : Type 0
ShortStepsDrawAlike = (before : List StepView) (step : StepView) (a b c d : ℤ) → StepsDrawAlike before step a b c d
