-- The refusals of a font's file, by the first part that has one. Running out of memory is none of them.
use Rattle.std.specs.Prelude.{◌≡◌, ℕ, List, Result, Ok, Err}
use Rattle.t1_seal.specs.Segments.{JoinedText, joined_of}
use Rattle.t1_seal.specs.Eexec.{private_text_of}
use Rattle.t1_seal.specs.SealError.{IsSegmentFault}
use Rattle.t1_seal.specs.declared.errors.SealError.{SealError}
use Rattle.t1_font.specs.ClearText.{clear_of}
use Rattle.t1_font.specs.FontFiles.{of_seal_error, marks_in, font_in}
use Rattle.t1_font.specs.Laws.Refusals.{IsClearRefusal, IsPrivateRefusal}
use Rattle.t1_font.specs.TextTurns.{TextRead}
use Rattle.t1_font.specs.declared.unread.Unread.{Unread}
use Rattle.t1_font.specs.declared.unread.Unread.TheVariants.{TooShort, Memory}

-- Of the segments: E01, E02 or E03, by its name in the program.
abbrev pub IsOfSegments : Unread → Type 0
IsOfSegments unread = (e : SealError) × (IsSegmentFault e × (unread ≡ of_seal_error e))

-- After a clear text that was read: E06 where the encrypted section isn't opened, else of the private text:
-- E07, E08, E09, E10, E11 or E12.
abbrev pub IsOfSection : Result (List ℕ) SealError → Unread → Type 0
IsOfSection (Err e) unread = unread ≡ TooShort
IsOfSection (Ok text) unread = IsPrivateRefusal unread

-- Of the clear text: E04, E07 or E13; else of what is after it.
abbrev pub IsOfTexts : Result TextRead Unread → Unread → Type 0
IsOfTexts (Err e) unread = IsClearRefusal unread
IsOfTexts (Ok clear) unread = IsOfSection (private_text_of clear.rest) unread

abbrev pub IsOfJoined : Result JoinedText SealError → Unread → Type 0
IsOfJoined (Err e) unread = IsOfSegments unread
IsOfJoined (Ok joined) unread = IsOfTexts (clear_of (marks_in joined) joined.bytes) unread

-- A file is refused for the first part that can't be read, by a refusal of that part.
abbrev pub RefusedByPart : Type 0
RefusedByPart = (bytes : List ℕ) (unread : Unread) → font_in bytes ≡ Err unread → IsOfJoined (joined_of bytes) unread

-- No bytes are refused as out of memory.
abbrev pub NeverForMemory : Type 0
NeverForMemory = (bytes : List ℕ) → font_in bytes ≡ Err Memory → ⊥
