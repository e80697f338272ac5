-- Frames that go on to the next step.
use Rattle.std.specs.Prelude.{◌≡◌, ℕ, ◌+◌, ◌-◌, ◌≤◌, ◌∷◌, List, length}
use Rattle.t1_font.specs.Fonts.{FontValue}
use Rattle.t1_char.specs.declared.cursor.Cursor.{Cursor}
use Rattle.t1_char.specs.declared.frames.Frames.{Frames}
use Rattle.t1_char.specs.declared.frames.Gone.{Gone}
use Rattle.t1_char.specs.declared.lines.Passing.{Passing}
use Rattle.t1_char.specs.declared.lines.Way.{Way}
use Rattle.t1_char.specs.declared.token.CharToken.{CharToken}
use Rattle.t1_char.specs.Lines.{PassesSteps}
use Rattle.t1_char.specs.Stacks.{most_numbers}
use Rattle.t1_char.specs.Steps.{StepView}
use Rattle.t1_char.specs.StepValues.{step_view}
use Rattle.t1_char.specs.Private.Cursors.{AtFirst, behind_token, tokens_left}
use Rattle.t1_char.specs.Private.Frames.{IsReady, step_here, steps_behind, steps_from}
use Rattle.t1_char.specs.Private.Machines.{IsBehind}
use Rattle.t1_char.specs.Private.Taking.{PassesUpTo}

-- What may be passed: which steps, up to which limit, in which font.
pub record Passage : Type 0 where
  pub what : Passing
  pub limit : ℕ
  pub font : FontValue

abbrev pub passage : Passing → ℕ → FontValue → Passage
passage what limit font = record { what = what; limit = limit; font = font }

-- So many steps after the first n were passed: executed, and not returned.
pub record HasGoneFar (p : Passage) (steps : List StepView) (n taken : ℕ) (way : Way) (new : Frames) : Type 0 where
  pub passed : PassesSteps p.what p.limit steps n taken way
  pub behind : IsBehind p.limit steps p.font (n + taken) new

-- The same for frames after n steps, whatever glyph they execute.
abbrev pub GoesFar : Passage → ℕ → Frames → ℕ → Way → Frames → Type 0
GoesFar p n f taken way new =
    (steps : List StepView) → IsBehind p.limit steps p.font n f → HasGoneFar p steps n taken way new

-- Steps were passed, and the token after them was read.
pub record ReadsToken (p : Passage) (n : ℕ) (f : Frames) (gone : Gone) (new : Frames) : Type 0 where
  pub taken : ℕ
  pub taken_is : gone.before ≡ n + taken
  pub passed : Frames
  pub over : GoesFar p n f taken gone.way passed
  pub token : tokens_left passed.current ≡ new.step.token ∷ behind_token new.step.token (tokens_left new.current)
  pub path : new.step.path.items ≡ passed.step.path.items
  pub callers : new.callers.items ≡ passed.callers.items
  pub stack : new.step.stack ≡ passed.step.stack
  pub waiting : new.waiting.items ≡ passed.waiting.items

-- From a number on that 255 begins, so many numbers were passed, and the token after them was read.
pub record GoesOverLong (f : Frames) (passed : ℕ) (token : CharToken) (new : Frames) : Type 0 where
  pub passes : (before : Cursor) → AtFirst 255 before f.current → PassesUpTo passed before f.step.stack token new.current new.step.stack
  pub kept : new ≡ record f { current = new.current; step = record f.step { stack = new.step.stack } }
  pub more : length new.step.stack ≡ length f.step.stack + passed
  pub near : passed ≤ most_numbers - length f.step.stack

-- The next step was read.
pub record IsNext (font : FontValue) (n : ℕ) (f new : Frames) : Type 0 where
  pub ready : IsReady font new
  pub behind : steps_from font new ≡ steps_behind font f
  pub step_is : step_view new.step ≡ step_here font new
  pub number : new.step.number ≡ n + 1

-- Steps were passed, and the step after them was read.
pub record Advances (p : Passage) (n : ℕ) (f : Frames) (gone : Gone) (new : Frames) : Type 0 where
  pub taken : ℕ
  pub taken_is : gone.before ≡ n + taken
  pub passed : Frames
  pub over : GoesFar p n f taken gone.way passed
  pub next : IsNext p.font gone.before passed new
