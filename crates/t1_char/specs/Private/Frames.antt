-- How the code's frames agree with those of the definitions.
use Rattle.std.specs.Prelude.{◌≡◌, ℕ, ◌+◌, true, List, [], ◌∷◌, ◌++◌, length, take}
use Rattle.t1_font.specs.Fonts.{FontValue}
use Rattle.t1_char.specs.declared.cursor.Cursor.{Cursor}
use Rattle.t1_char.specs.declared.frames.Frames.{Frames}
use Rattle.t1_char.specs.declared.token.CharToken.{CharToken}
use Rattle.t1_char.specs.Effects.{State, state_of}
use Rattle.t1_char.specs.Rests.{Frame, frame, rest_of}
use Rattle.t1_char.specs.Steps.{StepView, step_at, is_callsubr, named_at}
use Rattle.t1_char.specs.Private.Actions.{named_of}
use Rattle.t1_char.specs.Private.Cursors.{tokens_left, behind_token}

-- The frames of callers, the innermost first, where n frames lie below. The path of each is a prefix of
-- the path, with one Subr for each frame below it.
unfoldable pub callers_of : List ℕ → ℕ → List Cursor → List Frame
callers_of path n [] = []
callers_of path n (caller ∷ callers) =
    callers_of path (n + 1) callers ++ frame (take n path) (tokens_left caller) ∷ []

abbrev pub frames_with : Frames → List CharToken → List Frame
frames_with f left = frame f.step.path.items left ∷ callers_of f.step.path.items 0 f.callers.items

abbrev pub state_in : Frames → State
state_in f = state_of f.step.stack f.waiting.items

-- What follows the step's token.
abbrev pub left_behind : Frames → List CharToken
left_behind f = behind_token f.step.token (tokens_left f.current)

-- The step, the steps from it on, and those of the tokens after it.
abbrev pub step_here : FontValue → Frames → StepView
step_here font f = step_at font f.step.path.items f.step.token (left_behind f) (state_in f)

abbrev pub steps_from : FontValue → Frames → List StepView
steps_from font f = (rest_of font (frames_with f (f.step.token ∷ left_behind f)) (state_in f)).steps

abbrev pub steps_behind : FontValue → Frames → List StepView
steps_behind font f = (rest_of font (frames_with f (tokens_left f.current)) (state_in f)).steps

-- Each call has its caller, and a callsubr the Subr that it calls.
pub record IsReady (font : FontValue) (f : Frames) : Type 0 where
  pub even : length f.step.path.items ≡ length f.callers.items
  pub named : is_callsubr f.step.token ≡ true → named_of f.named ≡ named_at font f.step.token f.step.stack
