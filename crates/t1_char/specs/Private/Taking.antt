-- Numbers and commands that are taken from a charstring in a row.
use Rattle.std.specs.Prelude.{◌≡◌, ◌⊎◌, ℕ, zero, suc, ℤ, ◌+◌, ◌≤◌, Bool, true, false, Option, Some, None, List, ◌∷◌, length, take}
use Rattle.t1_char.specs.declared.command.Command.{Command as Commands}
use Rattle.t1_char.specs.declared.cursor.Cursor.{Cursor}
use Rattle.t1_char.specs.declared.cursor.Ahead.{Ahead}
use Rattle.t1_char.specs.declared.lines.DrawnPath.{DrawnPath}
use Rattle.t1_char.specs.declared.lines.DrawnPath.TheVariants.{Open}
use Rattle.t1_char.specs.declared.lines.Passing.{Passing}
use Rattle.t1_char.specs.declared.lines.Way.{Way}
use Rattle.t1_char.specs.declared.taking.Lines.{Lines}
use Rattle.t1_char.specs.declared.taking.Next.{Next}
use Rattle.t1_char.specs.declared.taking.Next.TheVariants.{End, Long, Token}
use Rattle.t1_char.specs.declared.taking.Stop.{Stop}
use Rattle.t1_char.specs.declared.token.CharToken.{CharToken}
use Rattle.t1_char.specs.declared.token.CharToken.TheVariants.{Command}
use Rattle.std.specs.List.{list_any}
use Rattle.t1_char.specs.Lines.{GoesOn, IsLed, IsWayNear, can_follow, closed, is_closed, is_far, is_led, leads, no_way, way_by}
use Rattle.std.specs.Borrow.{Bor}
use Rattle.t1_seal.specs.declared.cipher.Cipher.{Cipher}
use Rattle.t1_char.specs.Stacks.{most_numbers}
use Rattle.t1_char.specs.Tokens.{more_of, token_at}
use Rattle.t1_char.specs.Private.Cursors.{AtFirst, behind_token, cursor_of, tokens_left}
use Rattle.t1_char.specs.Private.Plain.{IsPlainEffect, PassesNumber}

-- So many numbers were read and executed one after another, each with room for it.
abbrev pub PassesNumbers : ℕ → Cursor → Cursor → List ℤ → List ℤ → Type 0
PassesNumbers zero ahead behind old new = (behind ≡ ahead) × (new ≡ old)
PassesNumbers (suc n) ahead behind old new =
    (between : Cursor) × ((stack : List ℤ) × (PassesNumbers n ahead between old stack × PassesNumber between behind stack new))

abbrev pub left_of : Bor (List ℕ) → Option Cipher → Ahead
left_of left cipher = record { left = left; cipher = cipher }

-- What is left at a stop, as a cursor.
abbrev pub stop_cursor : Stop → Cursor
stop_cursor stop = record { left = stop.left; cipher = stop.cipher; short = false }

abbrev pub lines_cursor : Lines → Cursor
lines_cursor stop = record { left = stop.left; cipher = stop.cipher; short = false }

-- The first byte of the next token was read, or nothing was.
abbrev pub StopsAt : Option ℕ → Cursor → Cursor → Type 0
StopsAt None before ahead = before ≡ ahead
StopsAt (Some first) before ahead = AtFirst first before ahead

-- Numbers were taken up to a token.
pub record Takes (ahead : Ahead) (old new : List ℤ) (stop : Stop) : Type 0 where
  pub count : ℕ
  pub before : Cursor
  pub passes : PassesNumbers count (cursor_of ahead) before old new
  pub more : length new ≡ length old + count
  pub first : StopsAt stop.first before (stop_cursor stop)
  pub near : list_any is_far old ≡ false → list_any is_far new ≡ false

-- The same on the way, with the cells that hold the numbers, so many.
pub record IsTaking (ahead : Ahead) (old : List ℤ) (cells : List ℤ) (len : ℕ) (left : Ahead) : Type 0 where
  pub count : ℕ
  pub passes : PassesNumbers count (cursor_of ahead) (cursor_of left) old (take len cells)
  pub more : len ≡ length old + count
  pub len_is : length (take len cells) ≡ len
  pub room : len ≤ most_numbers
  pub near : list_any is_far old ≡ false → list_any is_far (take len cells) ≡ false

-- A token is a command of such a kind, and leads so far.
pub record IsLedBy (which : Commands → Bool) (token : CharToken) (numbers : List ℤ) (way : Way) : Type 0 where
  pub command : Commands
  pub token_is : token ≡ Command command
  pub is : IsLed which command numbers
  pub way_is : way ≡ way_by command numbers

abbrev pub closepath_byte : ℕ
closepath_byte = 9

-- It is one that is passed after what was drawn.
pub record IsLedAfter (what : Passing) (drawn : DrawnPath) (token : CharToken) (numbers : List ℤ) (way : Way) : Type 0 where
  pub by : IsLedBy (is_led what) token numbers way
  pub from : can_follow by.command drawn ≡ true

-- The first byte is that of such a command, which it alone writes.
abbrev pub IsLedFirst : Passing → DrawnPath → Option ℕ → List ℤ → Way → Type 0
IsLedFirst what drawn None numbers way = ⊥
IsLedFirst what drawn (Some first) numbers way = ((rest : List ℕ) → IsLedAfter what drawn (token_at first rest) numbers way) × (more_of first ≡ 0)

-- Such a command or a closepath was read and executed.
pub record PassesCommand (what : Passing) (ahead behind : Cursor) (old new : List ℤ) (before after : Way) : Type 0 where
  pub command : Commands
  pub token : tokens_left ahead ≡ Command command ∷ tokens_left behind
  pub plain : IsPlainEffect (Command command) old new
  pub goes_on : GoesOn what command old before after

-- A number was, or, where commands are passed, such a command.
abbrev pub PassesOne : Passing → Cursor → Cursor → List ℤ → List ℤ → Way → Way → Type 0
PassesOne what ahead behind old new before after =
    (PassesNumber ahead behind old new × (after ≡ before)) ⊎ ((leads what ≡ true) × PassesCommand what ahead behind old new before after)

-- So many were, one after another.
abbrev pub PassesRow : Passing → ℕ → Cursor → Cursor → List ℤ → List ℤ → Way → Type 0
PassesRow what zero ahead behind old new way = (behind ≡ ahead) × ((new ≡ old) × (way ≡ no_way))
PassesRow what (suc n) ahead behind old new way =
    (between : Cursor) × ((stack : List ℤ) × ((before : Way) ×
    (PassesRow what n ahead between old stack before × PassesOne what between behind stack new before way)))

-- The next token was read, or its first byte, 255, or nothing was.
abbrev pub IsTokenRead : Next → Cursor → Cursor → Type 0
IsTokenRead End before ahead = before ≡ ahead
IsTokenRead Long before ahead = AtFirst 255 before ahead
IsTokenRead (Token token) before ahead = tokens_left before ≡ token ∷ behind_token token (tokens_left ahead)

-- So many numbers were read and executed, and the token after them was read.
pub record PassesUpTo (passed : ℕ) (before : Cursor) (old : List ℤ) (token : CharToken) (ahead : Cursor) (new : List ℤ) : Type 0 where
  pub between : Cursor
  pub passes : PassesNumbers passed before between old new
  pub token_is : tokens_left between ≡ token ∷ behind_token token (tokens_left ahead)

-- Numbers and commands were taken, up to a token.
pub record TakesLines (what : Passing) (ahead : Ahead) (old new : List ℤ) (stop : Lines) : Type 0 where
  pub before : Cursor
  pub passes : PassesRow what stop.passed (cursor_of ahead) before old new stop.way
  pub first : StopsAt stop.first before (lines_cursor stop)

-- The same on the way.
pub record IsTakingLines (what : Passing) (room : ℕ) (ahead : Ahead) (old : List ℤ) (numbers : List ℤ) (passed : ℕ) (before : Cursor) (way : Way) : Type 0 where
  pub passes : PassesRow what passed (cursor_of ahead) before old numbers way
  pub near : IsWayNear passed way
  pub room_is : passed ≤ room
  pub short : list_any is_far numbers ≡ false
  pub unclosed : is_closed way.drawn ≡ false
  pub few : way.moves ≤ passed

-- What was taken up to a stop.
abbrev pub lines_at : Stop → ℕ → Way → Lines
lines_at stop passed way =
    record { left = stop.left; cipher = stop.cipher; first = stop.first; len = stop.len; passed = passed; way = way }

-- A stop was a closepath after lines, and was executed, and the first byte of the token after it was read.
pub record FinishesBehind (stop : Stop) (passed : ℕ) (way : Way) (lines : Lines) : Type 0 where
  pub first : stop.first ≡ Some closepath_byte
  pub alone : stop.len ≡ 0
  pub drawn : way.drawn ≡ Open
  pub next : StopsAt lines.first (stop_cursor stop) (lines_cursor lines)
  pub len : lines.len ≡ 0
  pub passed_is : lines.passed ≡ passed + 1
  pub way_is : lines.way ≡ closed way

-- The path ends at a stop, or behind it.
abbrev pub Finishes : Stop → ℕ → Way → Lines → Type 0
Finishes stop passed way lines = (lines ≡ lines_at stop passed way) ⊎ FinishesBehind stop passed way lines
