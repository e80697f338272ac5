-- A font's file, which may be too large.
use Rattle.std.specs.Prelude.{◌≡◌, ℕ, nat_lt, if◌then◌else◌, List, length, Option, IfSome, Result, Ok, Err}
use Rattle.t1_font.specs.FontFiles.{font_in}
use Rattle.t1_font.specs.Fonts.{FontValue}
use Rattle.t1_font.specs.declared.unread.Unread.{Unread}
use Rattle.t1_report.specs.Refusals.{Refusal}
use Rattle.t1_report.specs.Refusals.Refusal.{FontTooLarge, Font}

-- The greatest size of a font's file, in bytes.
abbrev pub largest_file : ℕ
largest_file = 16777216

-- The font that was read, or why none was.
abbrev pub with_reason : Result FontValue Unread → Result FontValue Refusal
with_reason (Ok font) = Ok font
with_reason (Err unread) = Err (Font unread)

-- The font that a file's bytes are read as, or the one reason why they aren't: their number comes first.
unfoldable pub font_of : List ℕ → Result FontValue Refusal
font_of bytes = if nat_lt largest_file (length bytes) then Err FontTooLarge else with_reason (font_in bytes)

-- The bytes of a source, where they are known, are read so.
abbrev pub AreRead : Option (List ℕ) → Result FontValue Refusal → Type 0
AreRead left read = IfSome left (λ input. font_of input ≡ read)
