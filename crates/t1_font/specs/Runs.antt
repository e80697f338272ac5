-- Reading a text while a font's value is kept: each statement is put where it belongs.
use Rattle.std.specs.Prelude.{ℕ, zero, suc, Result, Ok, Err, List, length}
use Rattle.t1_font.specs.declared.unread.Unread.{Unread}
use Rattle.t1_font.specs.Readings.{◌>>=◌}
use Rattle.t1_font.specs.Fonts.{Marks, FontValue, value_of}
use Rattle.t1_font.specs.Puts.{put_one}
use Rattle.t1_font.specs.TextTurns.{TextTurn, over, goes, Reader, TextRead}

-- The value that a text leaves, and what follows the text.
pub record FontRead : Type 0 where
  pub value : FontValue
  pub rest : List ℕ

-- What follows a turn.
abbrev pub go_on : {M : Type 0} → (FontValue → M → List ℕ → Result FontRead Unread) → FontValue →
    TextTurn M → Result FontRead Unread
go_on after v (over rest) = Ok (record { value = v; rest = rest })
go_on after v (goes e mode left) = after (put_one v e) mode left

-- Reading from this value on, by at most n turns.
unfoldable pub run_within : {M : Type 0} → Reader M → Unread → ℕ → FontValue → M → List ℕ →
    Result FontRead Unread
run_within turn ended zero v mode s = Err ended
run_within turn ended (suc n) v mode s = turn v mode s >>= go_on (run_within turn ended n) v

abbrev pub run_of : {M : Type 0} → Reader M → Unread → FontValue → M → List ℕ → Result FontRead Unread
run_of turn ended v mode s = run_within turn ended (suc (length s)) v mode s

-- What a text leaves, by all that is stated in it and before it.
abbrev pub value_read : Marks → Result TextRead Unread → Result FontRead Unread
value_read marks (Ok read) = Ok (record { value = value_of marks read.stated; rest = read.rest })
value_read marks (Err e) = Err e
