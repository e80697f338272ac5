-- Numbers, and commands that empty the stack and do no more.
use Rattle.std.specs.Prelude.{◌≡◌, ℕ, ℤ, ◌<◌, Bool, true, false, Option, List, ◌∷◌, length}
use Rattle.t1_font.specs.Fonts.{FontValue}
use Rattle.t1_char.specs.declared.cursor.Cursor.{Cursor}
use Rattle.t1_char.specs.declared.frames.Frames.{Frames}
use Rattle.t1_char.specs.declared.token.CharToken.{CharToken}
use Rattle.t1_char.specs.declared.token.CharToken.TheVariants.{Number}
use Rattle.t1_char.specs.Effects.{CalledSubr, Work, clears, goes, effect, effect_of, state_of}
use Rattle.t1_char.specs.Stacks.{most_numbers}
use Rattle.t1_char.specs.Steps.{step_at}
use Rattle.t1_char.specs.Private.Cursors.{tokens_left}
use Rattle.t1_char.specs.Private.Frames.{state_in, steps_behind}

abbrev pub is_clearing : Work → Bool
is_clearing clears = true
is_clearing _ = false

-- A token leads from one stack to another, and the run goes on.
abbrev pub IsPlainEffect : CharToken → List ℤ → List ℤ → Type 0
IsPlainEffect token old new =
    (named : Option CalledSubr) (depth : ℕ) (waiting : List ℤ) →
    effect (state_of new waiting) goes ≡ effect_of token named depth (state_of old waiting)

-- A number that the stack has room for was read and executed.
pub record PassesNumber (ahead behind : Cursor) (old new : List ℤ) : Type 0 where
  pub number : ℤ
  pub token : tokens_left ahead ≡ Number number ∷ tokens_left behind
  pub plain : IsPlainEffect (Number number) old new
  pub room : length old < most_numbers

-- The next step was a number that the stack has room for, and was executed.
pub record GoesOverOne (font : FontValue) (f new : Frames) : Type 0 where
  pub number : ℤ
  pub room : length f.step.stack < most_numbers
  pub behind : steps_behind font f
      ≡ step_at font f.step.path.items (Number number) (tokens_left new.current) (state_in f) ∷ steps_behind font new
  pub path : new.step.path.items ≡ f.step.path.items
  pub callers : new.callers.items ≡ f.callers.items
