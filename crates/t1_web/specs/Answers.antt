-- What an export hands over.
use Rattle.std.specs.Prelude.{◌≡◌, ℕ, List, Option, None, Some, Result}
use Rattle.t1_forms.specs.PageValues.{PagesValue}
use Rattle.t1_report.specs.Refusals.{Refusal}
use Rattle.t1_report.specs.declared.marks.Mark.{Mark}
use Rattle.std.specs.Str.{IsUtf8}
use Rattle.t1_font.specs.Fonts.{FontValue}
use Rattle.t1_font.specs.declared.key.Key.{Key}
use Rattle.t1_pieces.specs.Documents.{IsDocumentPiece}
use Rattle.t1_pieces.specs.Drawings.{IsDrawing}
use Rattle.t1_pieces.specs.Entries.{IsNumbersPiece}
use Rattle.t1_pieces.specs.Pieces.{IsPiece}
use Rattle.t1_char.specs.declared.edition.Edition.{Edition}
use Rattle.t1_pieces.specs.Reading.{input_in}
use Rattle.t1_picture.specs.declared.extent.Extent.{Extent}
use Rattle.t1_pieces.specs.declared.form.Form.{Form}
use Rattle.t1_pieces.specs.declared.piece.Piece.{Piece}
use Rattle.t1_pieces.specs.declared.stage.Reached.{Reached}
use Rattle.t1_web.specs.Numbers.{IsFormOf, bytes_of, status_of}

-- A status, and so many bytes of a room.
pub record Answer : Type 0 where
  pub room : List ℕ
  pub written : ℕ
  pub status : ℕ

-- Lines of a font's report, or why there are none. The status is 6 where the name that objects are to have isn't UTF-8, and 9 where
-- no edition of the number can be asked for.
pub data AreHandedOver (form : ℕ) (name : List ℕ) (edition : Option Edition) (font waivers : List ℕ) (mark mark' : Mark) (answer : Answer)
    : Type 0 where
  handed :
      (own : Edition) → edition ≡ Some own → (wanted : Form) → IsFormOf form name (Some wanted) → (piece : Piece)
      → IsPiece wanted (input_in own font waivers) mark mark' answer.room piece
      → answer.written ≡ bytes_of piece → answer.status ≡ status_of piece → AreHandedOver form name edition font waivers mark mark' answer
  no_name :
      IsFormOf form name None → mark' ≡ mark → answer.written ≡ 0 → answer.status ≡ 6
      → AreHandedOver form name edition font waivers mark mark' answer
  no_edition :
      edition ≡ None → mark' ≡ mark → answer.written ≡ 0 → answer.status ≡ 9 → AreHandedOver form name edition font waivers mark mark' answer

-- Pieces of a font's document with these pages, or why there is none.
pub data IsDocumentHandedOver (pages : PagesValue) (name : List ℕ) (edition : Option Edition) (font waivers : List ℕ) (reached reached' : Reached)
    (answer : Answer) : Type 0 where
  handed :
      (own : Edition) → edition ≡ Some own → (piece : Piece)
      → IsDocumentPiece name pages (input_in own font waivers) reached reached' answer.room piece
      → answer.written ≡ bytes_of piece → answer.status ≡ status_of piece
      → IsDocumentHandedOver pages name edition font waivers reached reached' answer
  no_name :
      ¬ (IsUtf8 name) → reached' ≡ reached → answer.written ≡ 0 → answer.status ≡ 6
      → IsDocumentHandedOver pages name edition font waivers reached reached' answer
  no_edition :
      edition ≡ None → reached' ≡ reached → answer.written ≡ 0 → answer.status ≡ 9
      → IsDocumentHandedOver pages name edition font waivers reached reached' answer

-- A picture of a glyph, or why there is none.
pub data IsPictureHandedOver (name : List ℕ) (extent : Extent) (edition : Option Edition) (font waivers : List ℕ) (answer : Answer) : Type 0 where
  drawn_by :
      (own : Edition) → edition ≡ Some own → (drawn : Piece) → IsDrawing name extent (input_in own font waivers) answer.room drawn
      → answer.written ≡ bytes_of drawn → answer.status ≡ status_of drawn → IsPictureHandedOver name extent edition font waivers answer
  none_drawn :
      edition ≡ None → answer.written ≡ 0 → answer.status ≡ 9 → IsPictureHandedOver name extent edition font waivers answer

-- The numbers of an entry, or why there are none: the entry isn't there or is no list of numbers, or no such entry has the number.
pub data IsEntryHandedOver (key : Option Key) (read : Result FontValue Refusal) (answer : Answer) : Type 0 where
  handed_of :
      (wanted : Key) → key ≡ Some wanted → (numbers : Piece) → IsNumbersPiece wanted read answer.room numbers
      → answer.written ≡ bytes_of numbers → answer.status ≡ status_of numbers → IsEntryHandedOver key read answer
  no_key : key ≡ None → answer.written ≡ 0 → answer.status ≡ 8 → IsEntryHandedOver key read answer
