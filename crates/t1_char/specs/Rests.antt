-- What is left of a run while it is under way, by the charstrings that are being executed.
use Rattle.std.specs.Prelude.{ℕ, ◌-◌, List, [], ◌∷◌, length}
use Rattle.t1_font.specs.Fonts.{FontValue}
use Rattle.t1_char.specs.declared.token.CharToken.{CharToken}
use Rattle.t1_char.specs.Effects.{State, most_calls}
use Rattle.t1_char.specs.Steps.{StepView, Run, nothing, and_then, expansion}

-- A charstring that is being executed: its path, and the tokens that it has left.
pub record Frame : Type 0 where
  pub path : List ℕ
  pub left : List CharToken

abbrev pub frame : List ℕ → List CharToken → Frame
frame path left = record { path = path; left = left }

-- The run of frames, the innermost first: that of the tokens that are left, then, unless they finish the
-- glyph, that of the frames below, with the state that they left.
unfoldable pub rest_of : FontValue → List Frame → State → Run
rest_of font [] s = nothing s
rest_of font (f ∷ frames) s =
    and_then (expansion font (most_calls - length f.path) f.path f.left s) (λ left. rest_of font frames left)

-- The steps of that run.
abbrev pub steps_left : FontValue → List Frame → State → List StepView
steps_left font frames s = (rest_of font frames s).steps
