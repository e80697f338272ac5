-- What is read as a row of segments is written as segments.
use Rattle.std.proofs.Common.{◌≡◌, ℕ, zero, suc, ◌<◌, ◌≤◌, ◌^◌, ◌++◌, Bool, true, false, cond, ◌==◌, ◌||◌, ◌&&◌, List, [], ◌∷◌, length, take, drop, Result, Ok, Err, inl, inr, ◌⊎◌, lit<, le_refl, refl, ap, sym, ◌∙◌, append_assoc, length-take, get_or, arith, subst}
use Rattle.std.specs.Prelude.{nat_lt}
use Rattle.std.proofs.lemmas.Bool.{eqb-true, ltb-false}
use Rattle.std.proofs.lemmas.Nat.{le_bytes_4}
use Rattle.std.proofs.lemmas.List.{take-append-drop}
use Rattle.std.proofs.lemmas.List.Elements.{All-nil, All-cons, All-head, All-tail}
use Rattle.std.specs.Int.{from_le_bytes, to_le_bytes, w32}
use Rattle.std.specs.List.{flat_map}
use Rattle.t1_seal.specs.declared.errors.SealError.{SealError}
use Rattle.t1_seal.specs.declared.errors.SealError.TheVariants.{BadHeader, CutShort, NotAFont}
use Rattle.t1_seal.specs.Segments.{Part, nothing, ending, payload, Row, JoinedText, payload_of, segment_of_length, segment_of_type, segment_of, follow, with_front, row_within, row_of, as_pfb, as_pfa, begins_pfb, begins_pfa, joined_of}
use Rattle.t1_seal.specs.Laws.Segments.{Kind, text, binary, type_byte, Piece, Closing, by_file_end, by_end_segment, piece_bytes, closing_bytes, row_bytes, row_said, pfb_text, IsShort, IsByte, AreBytes, HasSegment, IsRow, IsPfb, IsPfa, ReadRowsAreWritten, JoinedPfbIsWritten, JoinedPfaIsWritten}
use Rattle.std.specs.Prelude.{◌+◌}
use Rattle.t1_seal.proofs.Rows.{segment_of-shorter}
use Rattle.t1_seal.proofs.WrittenRows.{said_after}

-- What holds of each branch, given the test, holds of the chosen one.
chosen : {A : Type 0} (test : Bool) (x y z : A) (P : Type 0) → (test ≡ true → x ≡ z → P) → (test ≡ false → y ≡ z → P) → cond test x y ≡ z → P
chosen true x y z P first second e = first refl e
chosen false x y z P first second e = second refl e

either_holds : (a b : Bool) → (a || b) ≡ true → (a ≡ true) ⊎ (b ≡ true)
either_holds true b h = inl refl
either_holds false b h = inr h

both_hold : (a b : Bool) → (a && b) ≡ true → (a ≡ true) × (b ≡ true)
both_hold true b h = (refl, h)
both_hold false b h = absurd (cc)

-- The part is a payload of n bytes and what follows it, and the bytes are these.
record IsPayload (n : ℕ) (bytes : List ℕ) (part : Part) : Type 0 where
  front : List ℕ
  rest : List ℕ
  is : part ≡ payload front rest
  len : n ≡ length front
  written : bytes ≡ front ++ rest

payload_read : (n : ℕ) (b : List ℕ) (part : Part) → payload_of n b ≡ Ok part → IsPayload n b part
payload_read n b part e =
    chosen (nat_lt (length b) n) (Err CutShort) (Ok (payload (take n b) (drop n b))) (Ok part) (IsPayload n b part)
    (λ _ same. absurd (cc same))
    (λ test same.
    let fits : n ≤ length b = ltb-false (length b) n test in
    record {
      front = take n b;
      rest = drop n b;
      is = cc same;
      len = omega (arith, length-take n b);
      written = sym (take-append-drop n b);
    }) e

bytes_fit : (bytes : List ℕ) (i : ℕ) → AreBytes bytes → get_or bytes i 0 < 256
bytes_fit [] i fit = lit< tt
bytes_fit (x ∷ bytes) zero fit = All-head IsByte x bytes fit
bytes_fit (x ∷ bytes) (suc i) fit = bytes_fit bytes i (All-tail IsByte x bytes fit)

rest_fits : (front rest : List ℕ) → AreBytes (front ++ rest) → AreBytes rest
rest_fits [] rest fit = fit
rest_fits (x ∷ front) rest fit = rest_fits front rest (All-tail IsByte x (front ++ rest) fit)

-- The part is a payload and what follows it, and the bytes are the payload's length and these.
record IsSized (bytes : List ℕ) (part : Part) : Type 0 where
  front : List ℕ
  rest : List ℕ
  is : part ≡ payload front rest
  short : length front < 2 ^ 32
  written : bytes ≡ (to_le_bytes w32 (length front) ++ front) ++ rest

sized_read : (b : List ℕ) (part : Part) → AreBytes b → segment_of_length b ≡ Ok part → IsSized b part
sized_read [] part fit e = absurd (cc)
sized_read (x ∷ []) part fit e = absurd (cc)
sized_read (x ∷ y ∷ []) part fit e = absurd (cc)
sized_read (x ∷ y ∷ z ∷ []) part fit e = absurd (cc)
sized_read (x ∷ y ∷ z ∷ w ∷ b) part fit e =
    let head : List ℕ = x ∷ y ∷ z ∷ w ∷ [] in
    let n : ℕ = from_le_bytes w32 head in
    let p : IsPayload n b part = payload_read n b part e in
    let x_fits : x < 256 = bytes_fit (x ∷ y ∷ z ∷ w ∷ b) 0 fit in
    let y_fits : y < 256 = bytes_fit (x ∷ y ∷ z ∷ w ∷ b) 1 fit in
    let z_fits : z < 256 = bytes_fit (x ∷ y ∷ z ∷ w ∷ b) 2 fit in
    let w_fits : w < 256 = bytes_fit (x ∷ y ∷ z ∷ w ∷ b) 3 fit in
    let head_fits : AreBytes head = All-cons IsByte x (y ∷ z ∷ w ∷ []) x_fits (All-cons IsByte y (z ∷ w ∷ []) y_fits
    (All-cons IsByte z (w ∷ []) z_fits (All-cons IsByte w [] w_fits (All-nil IsByte)))) in
    let below : n < 2 ^ 32 = omega arith in
    let spelled : to_le_bytes w32 n ≡ head = le_bytes_4 head n refl (λ i. bytes_fit head i head_fits) refl in
    let tail : List ℕ = p.front ++ p.rest in
    record {
      front = p.front;
      rest = p.rest;
      is = p.is;
      short = let P : ℕ → Type 0 = λ m. m < 2 ^ 32 in subst P p.len below;
      written = ap (λ t. head ++ t) p.written ∙ ap (λ h. h ++ tail) (sym spelled) ∙ ap (λ m. to_le_bytes w32 m ++ tail) p.len;
    }

-- The bytes are a segment with this payload, and these after it.
record IsPiece (bytes front rest : List ℕ) : Type 0 where
  kind : Kind
  short : length front < 2 ^ 32
  written : bytes ≡ piece_bytes (record { kind = kind; payload = front }) ++ rest

-- What bytes that begin with a part are.
abbrev Means : Part → List ℕ → Type 0
Means nothing b = b ≡ []
Means (ending rest) b = b ≡ 128 ∷ 3 ∷ rest
Means (payload front rest) b = IsPiece b front rest

piece_read : (kind : Kind) (b : List ℕ) (part : Part) → IsSized b part → Means part (128 ∷ type_byte kind ∷ b)
piece_read kind b part p =
    let piece : IsPiece (128 ∷ type_byte kind ∷ b) p.front p.rest = record {
      kind = kind;
      short = p.short;
      written = ap (λ t. 128 ∷ type_byte kind ∷ t) p.written;
    } in
    let P : Part → Type 0 = λ q. Means q (128 ∷ type_byte kind ∷ b) in subst P (sym p.is) piece

typed_means : (b : List ℕ) (part : Part) → AreBytes b → segment_of_type b ≡ Ok part → Means part (128 ∷ b)
typed_means [] part fit e = absurd (cc)
typed_means (t ∷ b) part fit e =
    let Goal : Type 0 = Means part (128 ∷ t ∷ b) in
    let other : Result Part SealError = cond (t == 1 || t == 2) (segment_of_length b) (Err BadHeader) in
    chosen (t == 3) (Ok (ending b)) other (Ok part) Goal
    (λ test same.
    let P : Part → Type 0 = λ q. Means q (128 ∷ t ∷ b) in
    let is : ending b ≡ part = cc same in
    subst P is (ap (λ u. 128 ∷ u ∷ b) (eqb-true t 3 test)))
    (λ _ rest. chosen (t == 1 || t == 2) (segment_of_length b) (Err BadHeader) (Ok part) Goal
    (λ test same.
    let p : IsSized b part = sized_read b part (All-tail IsByte t b fit) same in
    let P : ℕ → Type 0 = λ u. Means part (128 ∷ u ∷ b) in
    elim (either_holds (t == 1) (t == 2) test) [
      | inl one ↦ subst P (sym (eqb-true t 1 one)) (piece_read text b part p)
      | inr two ↦ subst P (sym (eqb-true t 2 two)) (piece_read binary b part p)
    ])
    (λ _ same. absurd (cc same)) rest) e

segment_means : (b : List ℕ) (part : Part) → AreBytes b → segment_of b ≡ Ok part → Means part b
unfolding segment_of
segment_means [] part fit e =
    let P : Part → Type 0 = λ q. Means q [] in
    let is : nothing ≡ part = cc e in
    subst P is refl
segment_means (x ∷ b) part fit e =
    chosen (x == 128) (segment_of_type b) (Err BadHeader) (Ok part) (Means part (x ∷ b))
    (λ test same.
    let P : ℕ → Type 0 = λ u. Means part (u ∷ b) in
    subst P (sym (eqb-true x 128 test)) (typed_means b part (All-tail IsByte x b fit) same))
    (λ _ same. absurd (cc same)) e

-- A row with bytes before it was read, so the row itself was.
record HasRest (front : List ℕ) (read : Result Row SealError) (row : Row) : Type 0 where
  inner : Row
  read_is : read ≡ Ok inner
  row_is : with_front front (Ok inner) ≡ Ok row

rest_read : (front : List ℕ) (read : Result Row SealError) (row : Row) → with_front front read ≡ Ok row → HasRest front read row
rest_read front (Ok inner) row e = record { inner = inner; read_is = refl; row_is = e }
rest_read front (Err e) row h = absurd (cc)

piece_before : (b front rest : List ℕ) (row inner : Row) → IsPiece b front rest → IsRow rest inner → with_front front (Ok inner) ≡ Ok row → IsRow b row
piece_before b front rest row inner p q e =
    let piece : Piece = record { kind = p.kind; payload = front } in
    let said : Ok row ≡ Ok (row_said (piece ∷ q.pieces) q.closing) =
    sym e ∙ ap (λ r. with_front front (Ok r)) q.said ∙ said_after piece q.pieces q.closing in
    record {
      pieces = piece ∷ q.pieces;
      closing = q.closing;
      short = All-cons IsShort piece q.pieces p.short q.short;
      written = p.written ∙ ap (λ t. piece_bytes piece ++ t) q.written
          ∙ sym (append_assoc (piece_bytes piece) (flat_map piece_bytes q.pieces) (closing_bytes q.closing));
      said = cc said;
    }

-- A row that begins with a part is written as segments, where shorter rows are.
follow_read : (n : ℕ) (b : List ℕ) (row : Row) (part : Result Part SealError) → AreBytes b → segment_of b ≡ part
    → ((rest : List ℕ) (inner : Row) → AreBytes rest → length rest < length b → row_within n rest ≡ Ok inner → IsRow rest inner)
    → follow (row_within n) part ≡ Ok row → IsRow b row
follow_read n b row (Err e) fit is shorter h = absurd (cc)
follow_read n b row (Ok nothing) fit is shorter h = record {
  pieces = [];
  closing = by_file_end;
  short = All-nil IsShort;
  written = segment_means b nothing fit is;
  said = cc;
}
follow_read n b row (Ok (ending rest)) fit is shorter h = record {
  pieces = [];
  closing = by_end_segment rest;
  short = All-nil IsShort;
  written = segment_means b (ending rest) fit is;
  said = cc;
}
follow_read n b row (Ok (payload front rest)) fit is shorter h =
    let p : IsPiece b front rest = segment_means b (payload front rest) fit is in
    let r : HasRest front (row_within n rest) row = rest_read front (row_within n rest) row h in
    let piece : Piece = record { kind = p.kind; payload = front } in
    let fits : AreBytes rest = rest_fits (piece_bytes piece) rest (rw p.written at fit) in
    let s : length front + length rest < length b = segment_of-shorter b front rest is in
    let smaller : length rest < length b = omega arith in
    let after : IsRow rest r.inner = shorter rest r.inner fits smaller r.read_is in
    piece_before b front rest row r.inner p after r.row_is

row_within-read : (n : ℕ) (b : List ℕ) (row : Row) → AreBytes b → length b ≤ n → row_within n b ≡ Ok row → IsRow b row
unfolding row_within
row_within-read zero [] row fit h e = record { pieces = []; closing = by_file_end; short = All-nil IsShort; written = refl; said = cc }
row_within-read zero (x ∷ b) row fit h e = absurd (omega arith)
row_within-read (suc n) b row fit h e =
    follow_read n b row (segment_of b) fit refl
    (λ rest inner fits smaller same. row_within-read n rest inner fits (omega arith) same) e

-- Bytes that are read as a row are written as segments.
pub read_rows_are_written : ReadRowsAreWritten
read_rows_are_written b row fit e = row_within-read (length b) b row fit (le_refl (length b)) e

record HasRow (read : Result Row SealError) (joined : JoinedText) : Type 0 where
  row : Row
  read_is : read ≡ Ok row
  said : joined ≡ pfb_text row

row_read : (read : Result Row SealError) (joined : JoinedText) → as_pfb read ≡ Ok joined → HasRow read joined
row_read (Ok row) joined e = record { row = row; read_is = refl; said = cc }
row_read (Err e) joined h = absurd (cc)

some_segment : (pieces : List Piece) (closing : Closing) → begins_pfb (row_bytes pieces closing) ≡ true → HasSegment pieces closing
some_segment [] by_file_end h = absurd (cc)
some_segment [] (by_end_segment rest) h = tt
some_segment (piece ∷ pieces) closing h = tt

-- A file that is joined as PFB is written as segments.
pub joined_pfb_is_written : JoinedPfbIsWritten
unfolding joined_of
joined_pfb_is_written b joined fit e pfb =
    let other : Result JoinedText SealError = cond (begins_pfa b) (Ok (as_pfa b)) (Err NotAFont) in
    chosen (begins_pfb b) (as_pfb (row_of b)) other (Ok joined) (IsPfb b joined)
    (λ test same.
    let r : HasRow (row_of b) joined = row_read (row_of b) joined same in
    let row : IsRow b r.row = read_rows_are_written b r.row fit r.read_is in
    record {
      pieces = row.pieces;
      closing = row.closing;
      some = some_segment row.pieces row.closing (ap begins_pfb (sym row.written) ∙ test);
      short = row.short;
      written = row.written;
      said = r.said ∙ ap pfb_text row.said;
    })
    (λ _ rest. chosen (begins_pfa b) (Ok (as_pfa b)) (Err NotAFont) (Ok joined) (IsPfb b joined)
    (λ _ same.
    let is : as_pfa b ≡ joined = cc same in
    absurd (cc (ap (λ j. j.pfb) is, pfb)))
    (λ _ same. absurd (cc same)) rest) e

pfa_begins : (b : List ℕ) → begins_pfa b ≡ true → (rest : List ℕ) × (b ≡ 37 ∷ 33 ∷ rest)
pfa_begins [] h = absurd (cc)
pfa_begins (x ∷ []) h = absurd (cc)
pfa_begins (x ∷ y ∷ rest) h =
    let both = both_hold (x == 37) (y == 33) h in
    (rest, ap (λ u. u ∷ y ∷ rest) (eqb-true x 37 both.0) ∙ ap (λ u. 37 ∷ u ∷ rest) (eqb-true y 33 both.1))

-- A file that is joined, and not as PFB, begins with %!.
pub joined_pfa_is_written : JoinedPfaIsWritten
unfolding joined_of
joined_pfa_is_written b joined e pfb =
    let other : Result JoinedText SealError = cond (begins_pfa b) (Ok (as_pfa b)) (Err NotAFont) in
    chosen (begins_pfb b) (as_pfb (row_of b)) other (Ok joined) (IsPfa b joined)
    (λ _ same.
    let r : HasRow (row_of b) joined = row_read (row_of b) joined same in
    absurd (cc (ap (λ j. j.pfb) r.said, pfb)))
    (λ _ rest. chosen (begins_pfa b) (Ok (as_pfa b)) (Err NotAFont) (Ok joined) (IsPfa b joined)
    (λ test same.
    let begins = pfa_begins b test in
    record { rest = begins.0; written = begins.1; said = cc same })
    (λ _ same. absurd (cc same)) rest) e
