-- Rows of segments are read as they were written.
use Rattle.std.proofs.Common.{◌≡◌, ℕ, ◌<◌, ◌≤◌, ◌^◌, ◌++◌, List, [], ◌∷◌, length, Ok, refl, ap, ◌∙◌, append_assoc, length-append, arith}
use Rattle.std.proofs.Math.Seq.{take-append_seam, drop-append_seam}
use Rattle.std.proofs.lemmas.Bool.{le-ltb}
use Rattle.std.proofs.lemmas.Nat.{from_le_bytes-to_le_bytes_4}
use Rattle.std.proofs.lemmas.List.Elements.{All-head, All-tail}
use Rattle.std.specs.Int.{to_le_bytes, w32}
use Rattle.std.specs.List.{flat_map}
use Rattle.t1_seal.specs.Segments.{payload, payload_of, segment_of_length, segment_of_type, segment_of, follow, with_front, row_within, row_of, as_pfb, joined_of}
use Rattle.t1_seal.specs.Laws.Segments.{Kind, text, binary, type_byte, Piece, Closing, by_file_end, by_end_segment, piece_bytes, closing_bytes, row_bytes, row_said, IsShort, ReadsWrittenRows, JoinsWrittenPfb, JoinsPfa}
use Rattle.t1_seal.proofs.Rows.{row_step}

payload_written : (front rest : List ℕ) → payload_of (length front) (front ++ rest) ≡ Ok (payload front rest)
payload_written front rest =
    let fits : length front ≤ length (front ++ rest) = omega (arith, length-append front rest) in
    rw (le-ltb (length (front ++ rest)) (length front) fits, take-append_seam front rest, drop-append_seam front rest) refl

sized_written : (front rest : List ℕ) → length front < 2 ^ 32 → segment_of_length ((to_le_bytes w32 (length front) ++ front) ++ rest) ≡ Ok (payload front rest)
sized_written front rest short =
    ap (λ n. payload_of n (front ++ rest)) (from_le_bytes-to_le_bytes_4 (length front) short) ∙ payload_written front rest

typed_written : (kind : Kind) (b : List ℕ) → segment_of_type (type_byte kind ∷ b) ≡ segment_of_length b
typed_written text b = refl
typed_written binary b = refl

piece_written : (piece : Piece) (rest : List ℕ) → length piece.payload < 2 ^ 32 → segment_of (piece_bytes piece ++ rest) ≡ Ok (payload piece.payload rest)
unfolding segment_of
piece_written piece rest short =
    typed_written piece.kind ((to_le_bytes w32 (length piece.payload) ++ piece.payload) ++ rest) ∙ sized_written piece.payload rest short

pub said_after : (piece : Piece) (pieces : List Piece) (closing : Closing) → with_front piece.payload (Ok (row_said pieces closing))
    ≡ Ok (row_said (piece ∷ pieces) closing)
said_after piece pieces by_file_end = refl
said_after piece pieces (by_end_segment rest) = refl

-- A row that is written as segments is read as just these.
pub reads_written_rows : ReadsWrittenRows
unfolding row_within segment_of
reads_written_rows [] by_file_end short = refl
reads_written_rows [] (by_end_segment rest) short = row_step (128 ∷ 3 ∷ rest)
reads_written_rows (piece ∷ pieces) closing short =
    let tail : List ℕ = row_bytes pieces closing in
    let fits : length piece.payload < 2 ^ 32 = All-head IsShort piece pieces short in
    let rest : row_of tail ≡ Ok (row_said pieces closing) = reads_written_rows pieces closing (All-tail IsShort piece pieces short) in
    ap row_of (append_assoc (piece_bytes piece) (flat_map piece_bytes pieces) (closing_bytes closing))
    ∙ row_step (piece_bytes piece ++ tail) ∙ ap (follow row_of) (piece_written piece tail fits)
    ∙ ap (with_front piece.payload) rest ∙ said_after piece pieces closing

-- A PFB file that is written as segments is joined to what they say.
pub joins_written_pfb : JoinsWrittenPfb
unfolding joined_of
joins_written_pfb [] by_file_end some short = absurd some
joins_written_pfb [] (by_end_segment rest) some short = ap as_pfb (reads_written_rows [] (by_end_segment rest) short)
joins_written_pfb (piece ∷ pieces) closing some short = ap as_pfb (reads_written_rows (piece ∷ pieces) closing short)

-- A file that begins with %! is joined to itself.
pub joins_pfa : JoinsPfa
unfolding joined_of
joins_pfa rest = refl
