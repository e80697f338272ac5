-- How a PFB file is read: a row of segments. Adobe Technical Note 5040, the IBM PC format.
-- A segment is the byte 128 and a type: 1 text, 2 binary, 3 end. Types 1 and 2 are followed by a length of
-- four bytes, the least significant first, and that many bytes, the payload.
use Rattle.std.specs.Prelude.{ℕ, zero, suc, ◌==◌, ◌++◌, nat_lt, if◌then◌else◌, ◌||◌, ◌&&◌, not, Bool, true, false, List, [], ◌∷◌, length, take, drop, Result, Ok, Err}
use Rattle.std.specs.Int.{from_le_bytes, w32}
use Rattle.t1_seal.specs.declared.errors.SealError.{SealError}
use Rattle.t1_seal.specs.declared.errors.SealError.TheVariants.{NotAFont, BadHeader, CutShort}

-- What a row of segments begins with: nothing, an end segment and what follows it, or a payload and
-- the row that follows it.
pub data Part : Type 0 where
  nothing : Part
  ending : List ℕ → Part
  payload : List ℕ → List ℕ → Part

-- The first n bytes are the payload.
abbrev pub payload_of : ℕ → List ℕ → Result Part SealError
payload_of n bytes =
    if nat_lt (length bytes) n then Err CutShort else Ok (payload (take n bytes) (drop n bytes))

-- What follows 128 and a type of 1 or 2: the length, then the payload.
abbrev pub segment_of_length : List ℕ → Result Part SealError
segment_of_length (a ∷ b ∷ c ∷ d ∷ rest) = payload_of (from_le_bytes w32 (a ∷ b ∷ c ∷ d ∷ [])) rest
segment_of_length _ = Err CutShort

-- What follows 128: the type.
abbrev pub segment_of_type : List ℕ → Result Part SealError
segment_of_type [] = Err CutShort
segment_of_type (t ∷ rest) =
    if t == 3 then Ok (ending rest) else if (t == 1 || t == 2) then segment_of_length rest else Err BadHeader

-- The segment that a row begins with.
unfoldable pub segment_of : List ℕ → Result Part SealError
segment_of [] = Ok nothing
segment_of (x ∷ rest) = if x == 128 then segment_of_type rest else Err BadHeader

-- What a whole row holds: its payloads in order, whether an end segment closes it, and whether bytes
-- follow that segment.
pub record Row : Type 0 where
  pub bytes : List ℕ
  pub end_segment : Bool
  pub trailing : Bool

-- The row that has front before its bytes.
abbrev pub with_front : List ℕ → Result Row SealError → Result Row SealError
with_front front (Ok row) =
    Ok (record { bytes = front ++ row.bytes; end_segment = row.end_segment; trailing = row.trailing })
with_front front (Err e) = Err e

-- The row that begins with a part, where after reads the row that follows a payload.
abbrev pub follow : (List ℕ → Result Row SealError) → Result Part SealError → Result Row SealError
follow after (Err e) = Err e
follow after (Ok nothing) = Ok (record { bytes = []; end_segment = false; trailing = false })
follow after (Ok (ending rest)) =
    Ok (record { bytes = []; end_segment = true; trailing = not (length rest == 0) })
follow after (Ok (payload front rest)) = with_front front (after rest)

-- A row of at most n payloads.
unfoldable pub row_within : ℕ → List ℕ → Result Row SealError
row_within zero bytes = Ok (record { bytes = []; end_segment = false; trailing = false })
row_within (suc n) bytes = follow (row_within n) (segment_of bytes)

-- A row, which has no more segments than bytes.
abbrev pub row_of : List ℕ → Result Row SealError
row_of bytes = row_within (length bytes) bytes

-- What a font file joins to: bytes, and three marks.
pub record JoinedText : Type 0 where
  pub bytes : List ℕ
  pub pfb : Bool
  pub end_segment : Bool
  pub trailing : Bool

abbrev pub as_pfb : Result Row SealError → Result JoinedText SealError
as_pfb (Ok row) =
    Ok (record { bytes = row.bytes; pfb = true; end_segment = row.end_segment; trailing = row.trailing })
as_pfb (Err e) = Err e

abbrev pub as_pfa : List ℕ → JoinedText
as_pfa bytes = record { bytes = bytes; pfb = false; end_segment = false; trailing = false }

-- The bytes begin with 128.
abbrev pub begins_pfb : List ℕ → Bool
begins_pfb [] = false
begins_pfb (x ∷ rest) = x == 128

-- The bytes begin with %!.
abbrev pub begins_pfa : List ℕ → Bool
begins_pfa (x ∷ y ∷ rest) = (x == 37) && (y == 33)
begins_pfa _ = false

-- What a font file joins to: a PFB file its row, a PFA file itself.
unfoldable pub joined_of : List ℕ → Result JoinedText SealError
joined_of bytes =
    if begins_pfb bytes then as_pfb (row_of bytes) else if begins_pfa bytes then Ok (as_pfa bytes)
    else Err NotAFont
