-- Laws of the segments' definition, in the words of Adobe Technical Note 5040, the IBM PC format: how a
-- file is written as segments, and that it is read as it was written.
use Rattle.std.specs.Prelude.{◌≡◌, ℕ, ◌<◌, ◌^◌, ◌==◌, ◌++◌, not, true, false, List, [], ◌∷◌, length, Result, Ok, Err}
use Rattle.std.specs.Int.{to_le_bytes, w32}
use Rattle.std.specs.List.{All, flat_map}
use Rattle.t1_seal.specs.declared.errors.SealError.{SealError}
use Rattle.t1_seal.specs.declared.errors.SealError.TheVariants.{CutShort, NotAFont}
use Rattle.t1_seal.specs.SealError.{IsSegmentFault}
use Rattle.t1_seal.specs.Segments.{Row, row_of, JoinedText, as_pfa, joined_of}

-- A file that isn't joined is refused for one of the three faults of segments.
abbrev pub RefusesByFault : Type 0
RefusesByFault = (bytes : List ℕ) (e : SealError) → joined_of bytes ≡ Err e → IsSegmentFault e

-- What a segment with a payload holds: text or binary data.
pub data Kind : Type 0 where
  text : Kind
  binary : Kind

abbrev pub type_byte : Kind → ℕ
type_byte text = 1
type_byte binary = 2

-- A segment with a payload.
pub record Piece : Type 0 where
  pub kind : Kind
  pub payload : List ℕ

-- How a row closes: where the file ends, or by an end segment, which these bytes follow.
pub data Closing : Type 0 where
  by_file_end : Closing
  by_end_segment : List ℕ → Closing

-- How a segment is written: 128, the type, the length in four bytes, the least significant first, and
-- the payload.
abbrev pub piece_bytes : Piece → List ℕ
piece_bytes piece = 128 ∷ type_byte piece.kind ∷ (to_le_bytes w32 (length piece.payload) ++ piece.payload)

abbrev pub closing_bytes : Closing → List ℕ
closing_bytes by_file_end = []
closing_bytes (by_end_segment rest) = 128 ∷ 3 ∷ rest

-- How a row is written: its segments one after another, and the closing.
abbrev pub row_bytes : List Piece → Closing → List ℕ
row_bytes pieces closing = flat_map piece_bytes pieces ++ closing_bytes closing

-- What a row that is so written says.
abbrev pub row_said : List Piece → Closing → Row
row_said pieces by_file_end =
    record { bytes = flat_map (λ piece. piece.payload) pieces; end_segment = false; trailing = false }
row_said pieces (by_end_segment rest) =
    record {
      bytes = flat_map (λ piece. piece.payload) pieces;
      end_segment = true;
      trailing = not (length rest == 0);
    }

-- The payload's length fits its four bytes.
abbrev pub IsShort : Piece → Type 0
IsShort piece = length piece.payload < 2 ^ 32

abbrev pub AreShort : List Piece → Type 0
AreShort pieces = All IsShort pieces

abbrev pub IsByte : ℕ → Type 0
IsByte n = n < 256

abbrev pub AreBytes : List ℕ → Type 0
AreBytes bytes = All IsByte bytes

-- There is at least one segment.
abbrev pub HasSegment : List Piece → Closing → Type 0
HasSegment [] by_file_end = ⊥
HasSegment [] (by_end_segment rest) = Unit {0}
HasSegment (piece ∷ pieces) closing = Unit {0}

-- The bytes are a row written as segments, and the row is what they say.
pub record IsRow (bytes : List ℕ) (row : Row) : Type 0 where
  pub pieces : List Piece
  pub closing : Closing
  pub short : AreShort pieces
  pub written : bytes ≡ row_bytes pieces closing
  pub said : row ≡ row_said pieces closing

-- The joined text of a PFB file whose row is this one.
abbrev pub pfb_text : Row → JoinedText
pfb_text row =
    record { bytes = row.bytes; pfb = true; end_segment = row.end_segment; trailing = row.trailing }

-- The bytes are a PFB file, a row of at least one segment, and the text is what it says.
pub record IsPfb (bytes : List ℕ) (joined : JoinedText) : Type 0 where
  pub pieces : List Piece
  pub closing : Closing
  pub some : HasSegment pieces closing
  pub short : AreShort pieces
  pub written : bytes ≡ row_bytes pieces closing
  pub said : joined ≡ pfb_text (row_said pieces closing)

-- The bytes are a PFA file, which begins with %!, and the text is the file itself.
pub record IsPfa (bytes : List ℕ) (joined : JoinedText) : Type 0 where
  pub rest : List ℕ
  pub written : bytes ≡ 37 ∷ 33 ∷ rest
  pub said : joined ≡ as_pfa bytes

-- A row that is written as segments is read as just these.
abbrev pub ReadsWrittenRows : Type 0
ReadsWrittenRows =
    (pieces : List Piece) (closing : Closing) → AreShort pieces
    → row_of (row_bytes pieces closing) ≡ Ok (row_said pieces closing)

-- Bytes that are read as a row are written as segments.
abbrev pub ReadRowsAreWritten : Type 0
ReadRowsAreWritten = (bytes : List ℕ) (row : Row) → AreBytes bytes → row_of bytes ≡ Ok row → IsRow bytes row

-- A PFB file that is written as segments is joined to what they say.
abbrev pub JoinsWrittenPfb : Type 0
JoinsWrittenPfb =
    (pieces : List Piece) (closing : Closing) → HasSegment pieces closing → AreShort pieces
    → joined_of (row_bytes pieces closing) ≡ Ok (pfb_text (row_said pieces closing))

-- A file that is joined as PFB is written as segments.
abbrev pub JoinedPfbIsWritten : Type 0
JoinedPfbIsWritten =
    (bytes : List ℕ) (joined : JoinedText) → AreBytes bytes → joined_of bytes ≡ Ok joined
    → joined.pfb ≡ true → IsPfb bytes joined

-- A file that begins with %! is joined to itself.
abbrev pub JoinsPfa : Type 0
JoinsPfa = (rest : List ℕ) → joined_of (37 ∷ 33 ∷ rest) ≡ Ok (as_pfa (37 ∷ 33 ∷ rest))

-- A file that is joined, and not as PFB, begins with %!.
abbrev pub JoinedPfaIsWritten : Type 0
JoinedPfaIsWritten =
    (bytes : List ℕ) (joined : JoinedText) → joined_of bytes ≡ Ok joined → joined.pfb ≡ false
    → IsPfa bytes joined

-- What is left of a PFB file shows that bytes were lost: nothing is left, a segment is cut short, or no
-- end segment closes the row.
abbrev pub TellsOfLoss : List ℕ → Result JoinedText SealError → Type 0
TellsOfLoss [] joined = joined ≡ Err NotAFont
TellsOfLoss (x ∷ left) (Err e) = e ≡ CutShort
TellsOfLoss (x ∷ left) (Ok joined) = (joined.pfb ≡ true) × (joined.end_segment ≡ false)

-- A PFB file with nothing after its end segment shows if bytes are lost at its end.
abbrev pub CutFilesTellOfLoss : Type 0
CutFilesTellOfLoss =
    (left lost : List ℕ) (whole : JoinedText) → 0 < length lost → joined_of (left ++ lost) ≡ Ok whole
    → whole.pfb ≡ true → whole.trailing ≡ false → TellsOfLoss left (joined_of left)
