-- A row of segments is refused for a fault of segments, and for nothing else.
use Rattle.std.proofs.Common.{◌≡◌, ℕ, zero, suc, Bool, true, false, cond, ◌==◌, ◌||◌, List, [], ◌∷◌, length, take, drop, Result, Ok, Err}
use Rattle.std.specs.Prelude.{nat_lt}
use Rattle.std.specs.Int.{from_le_bytes, w32}
use Rattle.t1_seal.specs.declared.errors.SealError.{SealError}
use Rattle.t1_seal.specs.declared.errors.SealError.TheVariants.{NotAFont, BadHeader, CutShort}
use Rattle.t1_seal.specs.SealError.{IsSegmentFault}
use Rattle.t1_seal.specs.Segments.{Part, nothing, ending, payload, Row, JoinedText, segment_of_length, segment_of_type, segment_of, follow, with_front, row_within, row_of, as_pfb, as_pfa, begins_pfb, begins_pfa, joined_of}

-- What is refused is refused for a fault of segments.
abbrev IsFaulty : {A : Type 0} → Result A SealError → Type 0
IsFaulty (Ok x) = Unit {0}
IsFaulty (Err e) = IsSegmentFault e

chosen : {A : Type 0} (test : Bool) (x y : Result A SealError) → IsFaulty x → IsFaulty y → IsFaulty (cond test x y)
chosen true x y first second = first
chosen false x y first second = second

segment_of_length-faulty : (b : List ℕ) → IsFaulty (segment_of_length b)
segment_of_length-faulty [] = tt
segment_of_length-faulty (x ∷ []) = tt
segment_of_length-faulty (x ∷ y ∷ []) = tt
segment_of_length-faulty (x ∷ y ∷ z ∷ []) = tt
segment_of_length-faulty (x ∷ y ∷ z ∷ w ∷ b) =
    let n : ℕ = from_le_bytes w32 (x ∷ y ∷ z ∷ w ∷ []) in
    chosen (nat_lt (length b) n) (Err CutShort) (Ok (payload (take n b) (drop n b))) tt tt

segment_of_type-faulty : (b : List ℕ) → IsFaulty (segment_of_type b)
segment_of_type-faulty [] = tt
segment_of_type-faulty (t ∷ b) =
    let other : Result Part SealError = cond (t == 1 || t == 2) (segment_of_length b) (Err BadHeader) in
    chosen (t == 3) (Ok (ending b)) other tt (chosen (t == 1 || t == 2) (segment_of_length b) (Err BadHeader) (segment_of_length-faulty b) tt)

segment_of-faulty : (b : List ℕ) → IsFaulty (segment_of b)
unfolding segment_of
segment_of-faulty [] = tt
segment_of-faulty (x ∷ b) = chosen (x == 128) (segment_of_type b) (Err BadHeader) (segment_of_type-faulty b) tt

with_front-faulty : (front : List ℕ) (row : Result Row SealError) → IsFaulty row → IsFaulty (with_front front row)
with_front-faulty front (Ok row) h = tt
with_front-faulty front (Err e) h = h

follow-faulty : (f : List ℕ → Result Row SealError) (part : Result Part SealError) → ((b : List ℕ) → IsFaulty (f b)) → IsFaulty part → IsFaulty (follow f part)
follow-faulty f (Err e) after h = h
follow-faulty f (Ok nothing) after h = tt
follow-faulty f (Ok (ending rest)) after h = tt
follow-faulty f (Ok (payload front rest)) after h = with_front-faulty front (f rest) (after rest)

row_within-faulty : (n : ℕ) (b : List ℕ) → IsFaulty (row_within n b)
unfolding row_within
row_within-faulty zero b = tt
row_within-faulty (suc n) b = follow-faulty (row_within n) (segment_of b) (row_within-faulty n) (segment_of-faulty b)

as_pfb-faulty : (row : Result Row SealError) → IsFaulty row → IsFaulty (as_pfb row)
as_pfb-faulty (Ok row) h = tt
as_pfb-faulty (Err e) h = h

joined_of-faulty : (b : List ℕ) → IsFaulty (joined_of b)
unfolding joined_of
joined_of-faulty b =
    let other : Result JoinedText SealError = cond (begins_pfa b) (Ok (as_pfa b)) (Err NotAFont) in
    chosen (begins_pfb b) (as_pfb (row_of b)) other (as_pfb-faulty (row_of b) (row_within-faulty (length b) b))
    (chosen (begins_pfa b) (Ok (as_pfa b)) (Err NotAFont) tt tt)

-- The refusal of a file is one of the three faults of segments.
pub joined_of-refused : (b : List ℕ) (e : SealError) → joined_of b ≡ Err e → IsSegmentFault e
joined_of-refused b e known = rw known at (joined_of-faulty b)
