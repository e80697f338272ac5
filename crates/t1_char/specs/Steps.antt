-- The steps of a glyph: its tokens one after another, as they are executed, with those of a Subr after the step that
-- calls it. Type 1 Font Format 1.1, chapters 6 and 8.
use Rattle.std.specs.Prelude.{ℕ, zero, suc, ℤ, ◌+◌, ◌&&◌, nat_lt, if◌then◌else◌, Bool, true, false, Option, Some, None, is_some, List, [], ◌∷◌, ◌++◌, length, take}
use Rattle.t1_font.specs.Fonts.{FontValue}
use Rattle.t1_char.specs.declared.command.Command.TheVariants.{Callsubr, Return}
use Rattle.t1_char.specs.declared.token.CharToken.{CharToken}
use Rattle.t1_char.specs.declared.token.CharToken.TheVariants.{Number, Command, End}
use Rattle.t1_char.specs.Numbers.{natural}
use Rattle.t1_char.specs.Stacks.{from_top}
use Rattle.t1_char.specs.Effects.{State, CalledSubr, Action, goes, calls, returns, finishes, Effect, effect_of, most_calls}
use Rattle.t1_char.specs.Charstrings.{subr_in, code_at, tokens_in}

-- One token that is executed: the Subrs that are being executed, the outermost first; the stack and how
-- many results wait before it; whether it calls a Subr that is there, by the top of the stack; whether
-- what follows it in its charstring is End alone, or, in a Subr, return and End.
pub record StepView : Type 0 where
  pub token : CharToken
  pub path : List ℕ
  pub stack : List ℤ
  pub waiting : ℕ
  pub found : Bool
  pub last : Bool

abbrev pub is_number : CharToken → Bool
is_number (Number _) = true
is_number _ = false

abbrev pub is_end : CharToken → Bool
is_end End = true
is_end _ = false

abbrev pub is_callsubr : CharToken → Bool
is_callsubr (Command Callsubr) = true
is_callsubr _ = false

abbrev pub is_return : CharToken → Bool
is_return (Command Return) = true
is_return _ = false

-- The Subr that a number names, and the one that the top of the stack names, where the token calls it.
abbrev pub with_code : ℕ → Option (List ℕ) → Option CalledSubr
with_code number None = None
with_code number (Some code) = Some (record { number = number; code = code })

abbrev pub subr_of : FontValue → Option ℕ → Option CalledSubr
subr_of font None = None
subr_of font (Some number) = with_code number (subr_in font number)

abbrev pub named_at : FontValue → CharToken → List ℤ → Option CalledSubr
named_at font token stack =
    if is_callsubr token && nat_lt 0 (length stack) then subr_of font (natural (from_top stack 0)) else None

-- What follows a token in its charstring is End alone, or, in a Subr, return and End.
abbrev pub is_last : ℕ → List CharToken → Bool
is_last depth (t ∷ []) = is_end t
is_last depth (t ∷ u ∷ []) = nat_lt 0 depth && is_return t && is_end u
is_last depth _ = false

abbrev pub step_at : FontValue → List ℕ → CharToken → List CharToken → State → StepView
step_at font path token behind s =
    record {
      token = token;
      path = path;
      stack = s.stack;
      waiting = length s.waiting;
      found = is_some (named_at font token s.stack);
      last = is_last (length path) behind;
    }

abbrev pub effect_at : FontValue → List ℕ → CharToken → State → Effect
effect_at font path token s = effect_of token (named_at font token s.stack) (length path) s

-- What a part of a glyph comes to: its steps, whether they finish the glyph, and the state that they
-- leave.
pub record Run : Type 0 where
  pub steps : List StepView
  pub finished : Bool
  pub state : State

abbrev pub nothing : State → Run
nothing s = record { steps = []; finished = false; state = s }

abbrev pub only : StepView → Bool → State → Run
only step finished s = record { steps = step ∷ []; finished = finished; state = s }

abbrev pub first : StepView → Run → Run
first step run = record { steps = step ∷ run.steps; finished = run.finished; state = run.state }

abbrev pub after : List StepView → Run → Run
after front run = record { steps = front ++ run.steps; finished = run.finished; state = run.state }

-- A run and what follows it, unless it finishes the glyph.
abbrev pub and_then : Run → (State → Run) → Run
and_then run next = if run.finished then run else after run.steps (next run.state)

-- A step and what its effect leads to: the tokens after it, or a Subr.
abbrev pub led_to : StepView → State → Action → (State → Run) → (ℕ → List ℕ → State → Run) → Run
led_to step s goes behind called = first step (behind s)
led_to step s (calls number code) behind called = first step (called number code s)
led_to step s returns behind called = only step false s
led_to step s finishes behind called = only step true s

abbrev pub run_by : StepView → Effect → (State → Run) → (ℕ → List ℕ → State → Run) → Run
run_by step e behind called = led_to step e.state e.action behind called

-- The steps of tokens, where n calls more can be open: n is most_calls less the length of the path. With n = 0 no effect calls,
-- so the row for a call says nothing then.
unfoldable pub expansion : FontValue → ℕ → List ℕ → List CharToken → State → Run
expansion font n path [] s = nothing s
expansion font zero path (t ∷ ts) s =
    run_by (step_at font path t ts s) (effect_at font path t s)
    (λ left. expansion font zero path ts left)
    (λ number code left. expansion font zero path ts left)
expansion font (suc n) path (t ∷ ts) s =
    run_by (step_at font path t ts s) (effect_at font path t s)
    (λ left. expansion font (suc n) path ts left)
    (λ number code left.
    and_then (expansion font n (path ++ number ∷ []) (tokens_in font code) left) (λ x. expansion font (suc n) path ts x))

-- A glyph starts with nothing on the stack, and no result.
abbrev pub at_start : State
at_start = record { stack = []; waiting = [] }

-- All steps of a glyph.
unfoldable pub steps_of : FontValue → ℕ → List StepView
steps_of font glyph = (expansion font most_calls [] (tokens_in font (code_at font glyph)) at_start).steps

-- Steps with their numbers.
pub record NumberedStep : Type 0 where
  pub number : ℕ
  pub step : StepView

abbrev pub numbered : ℕ → List StepView → List NumberedStep
numbered n [] = []
numbered n (step ∷ steps) = record { number = n; step = step } ∷ numbered (n + 1) steps

-- The steps up to the first past the limit, numbered from 1.
unfoldable pub first_steps : ℕ → FontValue → ℕ → List NumberedStep
first_steps limit font glyph = numbered 1 (take (limit + 1) (steps_of font glyph))
