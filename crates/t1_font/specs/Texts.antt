-- What the two texts of a font are read as.
use Rattle.std.specs.Prelude.{ℕ, ◌-◌, Result, Ok, Err, List, length}
use Rattle.t1_font.specs.declared.mode.PrivateMode.TheVariants.{Outside}
use Rattle.t1_font.specs.declared.unread.Unread.{Unread}
use Rattle.t1_font.specs.declared.unread.Unread.TheVariants.{BadCharStrings}
use Rattle.t1_font.specs.Fonts.{Stated, Marks, FontValue, value_of}
use Rattle.t1_font.specs.TextTurns.{TextRead}
use Rattle.t1_font.specs.Runs.{FontRead, run_of}
use Rattle.t1_font.specs.ClearText.{clear_of}
use Rattle.t1_font.specs.PrivateText.{private_turn, private_of}

-- What was read of a clear text: the font so far, and the place after the word eexec.
pub record ClearValue : Type 0 where
  pub font : FontValue
  pub after : ℕ

abbrev pub clear_value_of : Marks → List ℕ → Result TextRead Unread → Result ClearValue Unread
clear_value_of marks s (Ok read) =
    Ok (record { font = value_of marks read.stated; after = length s - length read.rest })
clear_value_of marks s (Err e) = Err e

abbrev pub clear_read : Marks → List ℕ → Result ClearValue Unread
clear_read marks s = clear_value_of marks s (clear_of marks s)

-- The font that the private text leaves, after what was stated in the clear text.
abbrev pub font_value_of : Marks → Result TextRead Unread → Result FontValue Unread
font_value_of marks (Ok read) = Ok (value_of marks read.stated)
font_value_of marks (Err e) = Err e

abbrev pub font_read : Marks → List Stated → List ℕ → Result FontValue Unread
font_read marks before s = font_value_of marks (private_of marks before s)

-- The value alone.
abbrev pub value_alone : Result FontRead Unread → Result FontValue Unread
value_alone (Ok read) = Ok read.value
value_alone (Err e) = Err e

-- The font that the private text leaves, read on from this value.
abbrev pub font_after : FontValue → List ℕ → Result FontValue Unread
font_after v s = value_alone (run_of private_turn BadCharStrings v Outside s)
