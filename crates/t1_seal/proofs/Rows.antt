-- What a row of segments reads, a segment at a time.
use Rattle.std.proofs.Common.{◌≡◌, ℕ, zero, suc, ◌<◌, ◌≤◌, ◌++◌, Bool, true, false, cond, ◌==◌, ◌||◌, List, [], ◌∷◌, length, Result, Ok, Err, refl, ap, sym, ◌∙◌, append_assoc, append-nil, not, length-drop, length-take, ◌+◌, arith}
use Rattle.std.specs.Int.{from_le_bytes, w32}
use Rattle.t1_seal.specs.declared.errors.SealError.{SealError}
use Rattle.t1_seal.specs.Segments.{Part, nothing, ending, payload, Row, payload_of, segment_of_length, segment_of_type, segment_of, follow, with_front, row_within, row_of, as_pfb}
use Rattle.t1_seal.specs.SealError.{is_memory}
use Rattle.t1_seal.specs.Readings.{RefusesBy}
use Rattle.t1_seal.specs.declared.errors.SealError.TheVariants.{NotAFont, BadHeader, CutShort, TooShort, Memory}

-- What holds of both branches holds of the chosen one.
chosen : {A : Type 0} (test : Bool) (x y z : A) (P : Type 0) → (x ≡ z → P) → (y ≡ z → P) → cond test x y ≡ z → P
chosen true x y z P first second e = first e
chosen false x y z P first second e = second e

-- A row that follows a payload is shorter than the row that began with it.
payload_of-shorter : (n : ℕ) (b front rest : List ℕ) → payload_of n b ≡ Ok (payload front rest) → length front + length rest ≤ length b
payload_of-shorter n b front rest e = grind (arith, length-drop {A = ℕ}, length-take {A = ℕ})

segment_of_length-shorter : (b front rest : List ℕ) → segment_of_length b ≡ Ok (payload front rest) → length front + length rest ≤ length b
segment_of_length-shorter [] front rest e = cc
segment_of_length-shorter (x ∷ []) front rest e = cc
segment_of_length-shorter (x ∷ y ∷ []) front rest e = cc
segment_of_length-shorter (x ∷ y ∷ z ∷ []) front rest e = cc
segment_of_length-shorter (x ∷ y ∷ z ∷ w ∷ b) front rest e =
    let shorter : length front + length rest ≤ length b = payload_of-shorter (from_le_bytes w32 (x ∷ y ∷ z ∷ w ∷ [])) b front rest e in omega arith

segment_of_type-shorter : (b front rest : List ℕ) → segment_of_type b ≡ Ok (payload front rest) → length front + length rest ≤ length b
segment_of_type-shorter [] front rest e = cc
segment_of_type-shorter (t ∷ b) front rest e =
    chosen (t == 3) (Ok (ending b)) _ _ (length front + length rest ≤ length (t ∷ b)) (λ same. absurd (cc same)) (λ other.
    chosen (t == 1 || t == 2) (segment_of_length b) _ _ (length front + length rest ≤ length (t ∷ b))
    (λ same. let shorter : length front + length rest ≤ length b = segment_of_length-shorter b front rest same in omega arith)
    (λ same. absurd (cc same)) other) e

pub segment_of-shorter : (b front rest : List ℕ) → segment_of b ≡ Ok (payload front rest) → length front + length rest < length b
unfolding segment_of
segment_of-shorter [] front rest e = cc
segment_of-shorter (x ∷ b) front rest e =
    chosen (x == 128) (segment_of_type b) _ _ (length front + length rest < length (x ∷ b))
    (λ same. let shorter : length front + length rest ≤ length b = segment_of_type-shorter b front rest same in omega arith)
    (λ same. absurd (cc same)) e

-- Two readers of what follows a payload read the same where they agree on it.
follow_same : (f g : List ℕ → Result Row SealError) (part : Result Part SealError) → ((front rest : List ℕ) → part ≡ Ok (payload front rest) → f rest ≡ g rest)
    → follow f part ≡ follow g part
follow_same f g (Err e) same = refl
follow_same f g (Ok nothing) same = refl
follow_same f g (Ok (ending rest)) same = refl
follow_same f g (Ok (payload front rest)) same = ap (with_front front) (same front rest refl)

-- A count of segments that reaches over the bytes may be any such count.
enough : (n m : ℕ) (b : List ℕ) → length b ≤ n → length b ≤ m → row_within n b ≡ row_within m b
unfolding row_within segment_of
enough zero zero b h k = refl
enough zero (suc m) [] h k = refl
enough zero (suc m) (x ∷ t) h k = absurd (omega arith)
enough (suc n) zero [] h k = refl
enough (suc n) zero (x ∷ t) h k = absurd (omega arith)
enough (suc n) (suc m) b h k = follow_same (row_within n) (row_within m) (segment_of b)
    (λ front rest e. let s : length front + length rest < length b = segment_of-shorter b front rest e in enough n m rest (omega arith) (omega arith))

-- A row is what its first segment and the row after it say.
pub row_step : (b : List ℕ) → row_of b ≡ follow row_of (segment_of b)
unfolding row_within segment_of
row_step [] = refl
row_step (x ∷ t) = follow_same (row_within (length t)) row_of (segment_of (x ∷ t))
    (λ front rest e. let s : length front + length rest < length (x ∷ t) = segment_of-shorter (x ∷ t) front rest e in enough (length t) (length rest)
    rest (omega arith) (omega arith))

-- Two parts put before a row are their sum put before it.
pub fronts : (a b : List ℕ) (row : Result Row SealError) → with_front a (with_front b row) ≡ with_front (a ++ b) row
fronts a b (Ok row) = rw (append_assoc a b row.bytes) refl
fronts a b (Err e) = refl

-- With the bytes taken so far before what is left of a row, the whole is what the next part says.
pub row_at : (taken row : List ℕ) (whole : Result Row SealError) (part : Result Part SealError) → with_front taken (row_of row) ≡ whole → segment_of row ≡ part
    → whole ≡ with_front taken (follow row_of part)
row_at taken row whole part known e = sym known ∙ ap (with_front taken) (row_step row ∙ ap (follow row_of) e)

-- A payload moves from the row to the bytes taken.
pub payload_read : (taken row : List ℕ) (whole : Result Row SealError) (front rest : List ℕ) → with_front taken (row_of row) ≡ whole
    → segment_of row ≡ Ok (payload front rest) → with_front (taken ++ front) (row_of rest) ≡ whole
payload_read taken row whole front rest known e = sym (row_at taken row whole (Ok (payload front rest)) known e ∙ fronts taken front (row_of rest))

-- The row is over: without an end segment, and with one.
pub row_over : (taken row : List ℕ) (whole : Result Row SealError) → with_front taken (row_of row) ≡ whole → segment_of row ≡ Ok nothing
    → as_pfb whole ≡ Ok (record { bytes = taken; pfb = true; end_segment = false; trailing = false })
row_over taken row whole known e = ap as_pfb (row_at taken row whole (Ok nothing) known e) ∙ rw (append-nil taken) refl

pub row_ended : (taken row : List ℕ) (whole : Result Row SealError) (rest : List ℕ) → with_front taken (row_of row) ≡ whole → segment_of row ≡ Ok (ending rest)
    → as_pfb whole ≡ Ok (record { bytes = taken; pfb = true; end_segment = true; trailing = not (length rest == 0) })
row_ended taken row whole rest known e = ap as_pfb (row_at taken row whole (Ok (ending rest)) known e) ∙ rw (append-nil taken) refl

-- A row that is refused at a segment is refused whole.
pub row_refused : (taken row : List ℕ) (whole : Result Row SealError) (e : SealError) → with_front taken (row_of row) ≡ whole → RefusesBy is_memory e (segment_of row)
    → RefusesBy is_memory e (as_pfb whole)
row_refused taken row whole Memory known e = tt
row_refused taken row whole NotAFont known e = ap as_pfb (row_at taken row whole (Err NotAFont) known e)
row_refused taken row whole BadHeader known e = ap as_pfb (row_at taken row whole (Err BadHeader) known e)
row_refused taken row whole CutShort known e = ap as_pfb (row_at taken row whole (Err CutShort) known e)
row_refused taken row whole TooShort known e = ap as_pfb (row_at taken row whole (Err TooShort) known e)
