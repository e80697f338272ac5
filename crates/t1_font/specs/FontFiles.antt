-- A font's file: the font that its bytes are read as, or the first reason why they aren't (Type 1 Font
-- Format 1.1, chapters 2, 7; Technical Note 5040).
use Rattle.std.specs.Prelude.{◌≡◌, ◌⊎◌, ℕ, ◌-◌, ◌&&◌, not, length, take, List, Result, Ok, Err}
use Rattle.t1_seal.specs.Segments.{JoinedText, joined_of}
use Rattle.t1_seal.specs.Eexec.{private_text_of}
use Rattle.t1_seal.specs.declared.errors.SealError.{SealError}
use Rattle.t1_seal.specs.declared.errors.SealError.TheVariants as seal
use Rattle.t1_font.specs.ClearText.{clear_of}
use Rattle.t1_font.specs.Fonts.{Stated, Marks, FontValue, with_texts}
use Rattle.t1_font.specs.Texts.{font_read}
use Rattle.t1_font.specs.TextTurns.{TextRead}
use Rattle.t1_font.specs.declared.unread.Unread.{Unread}
use Rattle.t1_font.specs.declared.unread.Unread.TheVariants.{NotAFont, BadHeader, CutShort, TooShort, Memory}

-- A fault of the segments or of the encrypted section.
abbrev pub of_seal_error : SealError → Unread
of_seal_error seal.NotAFont = NotAFont
of_seal_error seal.BadHeader = BadHeader
of_seal_error seal.CutShort = CutShort
of_seal_error seal.TooShort = TooShort
of_seal_error seal.Memory = Memory

-- The marks of the row of segments.
abbrev pub marks_in : JoinedText → Marks
marks_in joined = record { no_end = joined.pfb && not joined.end_segment; extra = joined.trailing }

-- A font that was read, with its texts.
abbrev pub read_with : List ℕ → List ℕ → Result FontValue Unread → Result FontValue Unread
read_with clear private (Ok font) = Ok (with_texts clear private font)
read_with clear private (Err e) = Err e

-- The private text, which the encrypted section opens to, after this clear text and what it states.
abbrev pub private_next : Marks → List ℕ → List Stated → Result (List ℕ) SealError → Result FontValue Unread
private_next marks clear before (Ok text) = read_with clear text (font_read marks before text)
private_next marks clear before (Err e) = Err (of_seal_error e)

-- What is before a rest of it.
abbrev pub before_rest : List ℕ → List ℕ → List ℕ
before_rest s rest = take (length s - length rest) s

-- The encrypted section, which follows the word eexec of the clear text.
abbrev pub section_next : Marks → List ℕ → Result TextRead Unread → Result FontValue Unread
section_next marks s (Ok clear) = private_next marks (before_rest s clear.rest) clear.stated (private_text_of clear.rest)
section_next marks s (Err e) = Err e

-- The clear text, with which joined bytes begin.
abbrev pub text_in : JoinedText → Result FontValue Unread
text_in joined = section_next (marks_in joined) joined.bytes (clear_of (marks_in joined) joined.bytes)

abbrev pub clear_next : Result JoinedText SealError → Result FontValue Unread
clear_next (Ok joined) = text_in joined
clear_next (Err e) = Err (of_seal_error e)

-- A file: its segments, its clear text, its encrypted section, its private text.
unfoldable pub font_in : List ℕ → Result FontValue Unread
font_in bytes = clear_next (joined_of bytes)

-- Why a font isn't read: it is so, or memory ran out.
abbrev pub IsUnread : Unread → Result FontValue Unread → Type 0
IsUnread unread read = (unread ≡ Memory) ⊎ (read ≡ Err unread)
