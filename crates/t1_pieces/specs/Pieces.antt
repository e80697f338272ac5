-- What a call hands over: a text, or lines of a font's report after a mark; or why there is nothing.
use Rattle.std.specs.Prelude.{◌≡◌, ◌≤◌, ◌<◌, ◌+◌, ℕ, List, length, take, Some, Result, Ok, Err}
use Rattle.t1_report.specs.Refusals.{refusal_code_of, Refusal}
use Rattle.t1_font.specs.Refusals.{refusal_text_of}
use Rattle.t1_font.specs.declared.unread.RefusalCode.{RefusalCode}
use Rattle.t1_report.specs.Faults.{FaultValue}
use Rattle.t1_report.specs.Laws.Walks.{LeadTo}
use Rattle.t1_report.specs.Walks.{HasNoneLater, IsNext}
use Rattle.t1_report.specs.declared.marks.Mark.{Mark}
use Rattle.t1_run.specs.declared.failure.Failure.{Failure}
use Rattle.t1_run.specs.declared.failure.Failure.TheVariants as failure
use Rattle.t1_pieces.specs.Forms.{line_as, lines_as}
use Rattle.t1_pieces.specs.Reading.{Input}
use Rattle.t1_pieces.specs.declared.form.Form.{Form}
use Rattle.t1_pieces.specs.declared.piece.Piece.{Piece}
use Rattle.t1_pieces.specs.declared.piece.Piece.TheVariants.{Last, Memory, More, NoRoom, Refused}

-- ---- whole texts and refusals

-- A text is the first bytes of a room; or the room doesn't hold it.
abbrev pub IsTextIn : List ℕ → List ℕ → Piece → Type 0
IsTextIn text room (Last n) = (n ≤ length room) × (take n room ≡ text)
IsTextIn text room (NoRoom n) = (n ≡ length text) × (length room < n)
IsTextIn text room _ = ⊥

-- The text of a refusal is, the code first; or the room doesn't hold it.
abbrev pub IsRefusedBy : RefusalCode → List ℕ → Piece → Type 0
IsRefusedBy code room (Refused n) = (n ≤ length room) × (take n room ≡ refusal_text_of code)
IsRefusedBy code room (NoRoom n) = (n ≡ length (refusal_text_of code)) × (length room < n)
IsRefusedBy code room _ = ⊥

-- Nothing was made: the bytes were refused, or memory ran out.
abbrev pub IsFailedBy : Failure → List ℕ → Piece → Type 0
IsFailedBy (failure.Refused code) room piece = IsRefusedBy code room piece
IsFailedBy _ room piece = piece ≡ Memory

-- What is handed over, by what the bytes are read as: what is made of that; or the bytes are refused for their reason, or memory ran out,
-- and what is to stay stays.
pub data IsHanded {A : Type 0} (IsMade : A → List ℕ → Piece → Type 0) (Stays : Type 0) (read : Result A Refusal) (room : List ℕ) (piece : Piece) : Type 0 where
  made : (value : A) → read ≡ Ok value → IsMade value room piece → IsHanded IsMade Stays read room piece
  refused :
      (reason : Refusal) (code : RefusalCode) → read ≡ Err reason → refusal_code_of reason ≡ Some code → IsRefusedBy code room piece → Stays
      → IsHanded IsMade Stays read room piece
  no_memory : piece ≡ Memory → Stays → IsHanded IsMade Stays read room piece

-- ---- lines

-- The lines of the faults between two marks are the first n bytes of a room.
pub record AreGiven (form : Form) (input : Input) (mark mark' : Mark) (room : List ℕ) (n : ℕ) : Type 0 where
  pub given : List FaultValue
  pub led : LeadTo input.font input.waivers mark given mark'
  pub within : n ≤ length room
  pub text : take n room ≡ lines_as form input.font input.waivers given

-- After them comes a line of so many bytes that the room doesn't hold any more.
pub record IsFull (form : Form) (input : Input) (mark' : Mark) (room : List ℕ) (n size : ℕ) : Type 0 where
  pub next : FaultValue
  pub is_next : IsNext input.font input.waivers mark' next
  pub size_is : size ≡ length (line_as form input.font input.waivers next)
  pub too_long : length room < n + size

-- What a call hands over of a font's report: its last lines; some, as many as the room holds; none, where the room doesn't
-- hold the next one; or memory ran out. Without lines the mark stays.
abbrev pub IsPieceOf : Form → Input → Mark → Mark → List ℕ → Piece → Type 0
IsPieceOf form input mark mark' room (Last n) = AreGiven form input mark mark' room n × HasNoneLater input.font input.waivers mark'
IsPieceOf form input mark mark' room (More n) = (0 < n) × AreGiven form input mark mark' room n × ((size : ℕ) × IsFull form input mark' room n size)
IsPieceOf form input mark mark' room (NoRoom n) = (mark' ≡ mark) × IsFull form input mark' room 0 n
IsPieceOf form input mark mark' room Memory = mark' ≡ mark
IsPieceOf form input mark mark' room _ = ⊥

-- By what the font and the waivers are read as.
abbrev pub IsPiece : Form → Result Input Refusal → Mark → Mark → List ℕ → Piece → Type 0
IsPiece form read mark mark' room piece =
    IsHanded (λ input room piece. IsPieceOf form input mark mark' room piece) (mark' ≡ mark) read room piece
