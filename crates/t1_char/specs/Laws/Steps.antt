-- Laws of the expansion. Type 1 Font Format 1.1, chapters 6 and 8.
use Rattle.std.specs.Prelude.{◌≡◌, ℕ, ◌-◌, ◌≤◌, ◌||◌, not, if◌then◌else◌, Bool, true, List, [], ◌∷◌, ◌++◌, length, map, take, ◌↔◌, ◌⊎◌, ◌≢◌, ◌^◌, ◌<◌, ℤ, pos, Some}
use Rattle.std.specs.List.{All, AllPass}
use Rattle.t1_font.specs.Fonts.{FontValue}
use Rattle.t1_char.specs.declared.command.Command.TheVariants.{Callsubr, Return}
use Rattle.t1_char.specs.declared.token.CharToken.{CharToken}
use Rattle.t1_char.specs.declared.token.CharToken.TheVariants.{Command, End}
use Rattle.t1_char.specs.Charstrings.{code_at, subr_in, tokens_in}
use Rattle.t1_char.specs.Effects.{State, Action, goes, calls, returns, finishes, is_finishing, most_calls, most_results}
use Rattle.t1_char.specs.Numbers.{units}
use Rattle.t1_char.specs.Stacks.{most_numbers}
use Rattle.t1_char.specs.Steps.{StepView, at_start, effect_at, is_callsubr, is_end, step_at, steps_of}

-- What finishes the glyph at any depth, and End outside Subrs.
abbrev pub finishes_at : CharToken → List ℕ → Bool
finishes_at token [] = is_finishing token || is_end token
finishes_at token (_ ∷ _) = is_finishing token

-- The elements up to the first such.
abbrev pub up_to : {A : Type 0} → (A → Bool) → List A → List A
up_to test [] = []
up_to test (x ∷ xs) = if test x then x ∷ [] else x ∷ up_to test xs

abbrev pub token_and_path : StepView → CharToken × List ℕ
token_and_path step = (step.token, step.path)

abbrev pub calls_nothing : CharToken → Bool
calls_nothing token = not (is_callsubr token)

-- A glyph without callsubr is executed token by token, up to the one that finishes it.
abbrev pub PlainGlyphsGoOn : Type 0
PlainGlyphsGoOn = (font : FontValue) (glyph : ℕ) →
    AllPass calls_nothing (tokens_in font (code_at font glyph)) →
    map token_and_path (steps_of font glyph)
    ≡ map (λ t. (t, [])) (up_to (λ t. finishes_at t []) (tokens_in font (code_at font glyph)))

-- Nothing follows a step that finishes the glyph.
abbrev pub NothingFollows : Type 0
NothingFollows = (font : FontValue) (glyph : ℕ) (front rest : List StepView) (step : StepView) →
    steps_of font glyph ≡ front ++ step ∷ rest →
    finishes_at step.token step.path ≡ true → rest ≡ []

-- The steps have a last one, and that finishes the glyph.
pub record IsFinished (steps : List StepView) : Type 0 where
  pub front : List StepView
  pub end : StepView
  pub is : steps ≡ front ++ end ∷ []
  pub finishes : finishes_at end.token end.path ≡ true

-- Each glyph is finished by its last step: endchar, seac, or the end of its own charstring.
abbrev pub GlyphsAreFinished : Type 0
GlyphsAreFinished = (font : FontValue) (glyph : ℕ) → IsFinished (steps_of font glyph)

-- The bounds of a step.
pub record IsBounded (step : StepView) : Type 0 where
  pub path : length step.path ≤ most_calls
  pub stack : length step.stack ≤ most_numbers
  pub waiting : step.waiting ≤ most_results

abbrev pub StepsAreBounded : Type 0
StepsAreBounded = (font : FontValue) (glyph : ℕ) → All IsBounded (steps_of font glyph)

-- The path after a step: a call adds its Subr, and a return takes the last one off.
abbrev pub path_behind : List ℕ → Action → List ℕ
path_behind path goes = path
path_behind path (calls number code) = path ++ number ∷ []
path_behind path returns = take (length path - 1) path
path_behind path finishes = path

-- The step has this path, this stack, and so many results that wait.
pub record StandsIn (step : StepView) (path : List ℕ) (s : State) : Type 0 where
  pub path_is : step.path ≡ path
  pub stack_is : step.stack ≡ s.stack
  pub waiting_is : step.waiting ≡ length s.waiting

-- Each of the steps has the path and the state that the effect of the one before leads to, and the first one has these.
abbrev pub GoOnFrom : FontValue → List ℕ → State → List StepView → Type 0
GoOnFrom font path s [] = Unit {0}
GoOnFrom font path s (step ∷ steps) =
    StandsIn step path s
    × GoOnFrom font (path_behind path (effect_at font path step.token s).action)
    (effect_at font path step.token s).state steps

-- A glyph starts with no Subr, no number and no result. Each further step has the path and the state that the
-- effects before it lead to, through calls and back.
abbrev pub StepsGoOn : Type 0
StepsGoOn = (font : FontValue) (glyph : ℕ) → GoOnFrom font [] at_start (steps_of font glyph)

-- A step says that it is its charstring's last where nothing follows it there but the end, or, in a Subr, return
-- and the end.
abbrev pub LastsAreByWhatFollows : Type 0
LastsAreByWhatFollows = (font : FontValue) (path : List ℕ) (t : CharToken) (behind : List CharToken) (s : State) →
    ((step_at font path t behind s).last ≡ true)
    ↔ ((behind ≡ End ∷ []) ⊎ ((path ≢ []) × (behind ≡ Command Return ∷ End ∷ [])))

-- It is a callsubr, with the number of a Subr that is there on top of the stack.
pub record CallsASubr (font : FontValue) (t : CharToken) (stack : List ℤ) (number : ℕ) : Type 0 where
  pub code : List ℕ
  pub below : List ℤ
  pub token : t ≡ Command Callsubr
  pub stack_is : stack ≡ below ++ units (pos number) ∷ []
  pub there : subr_in font number ≡ Some code

-- A step that says that it finds its Subr calls one, and one that calls a Subr says so. (Numbers of 32 bits are
-- more than the stack can hold.)
abbrev pub FoundSubrsAreCalled : Type 0
FoundSubrsAreCalled = (font : FontValue) (path : List ℕ) (t : CharToken) (behind : List CharToken) (s : State) →
    (step_at font path t behind s).found ≡ true → (number : ℕ) × CallsASubr font t s.stack number

abbrev pub CalledSubrsAreFound : Type 0
CalledSubrsAreFound = (font : FontValue) (path : List ℕ) (t : CharToken) (behind : List CharToken) (s : State) (number : ℕ) →
    number < 2 ^ 32 → CallsASubr font t s.stack number → (step_at font path t behind s).found ≡ true
