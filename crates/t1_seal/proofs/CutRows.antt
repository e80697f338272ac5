-- What is left of a row that lost bytes at its end.
use Rattle.std.proofs.Common.{◌≡◌, ℕ, zero, suc, ◌<◌, ◌≤◌, ◌==◌, ◌||◌, ◌++◌, nat_lt, not, Bool, true, false, true≢false, cond, List, [], ◌∷◌, length, take, drop, Result, Ok, Err, refl, sym, ap, subst, ◌∙◌, arith, length-append, length-drop}
use Rattle.std.proofs.lemmas.Bool.{le-ltb, ltb-false, ne_eqb}
use Rattle.std.proofs.lemmas.List.{drop-append-le}
use Rattle.std.specs.Int.{from_le_bytes, w32}
use Rattle.t1_seal.specs.declared.errors.SealError.{SealError}
use Rattle.t1_seal.specs.declared.errors.SealError.TheVariants.{BadHeader, CutShort, NotAFont}
use Rattle.t1_seal.specs.Segments.{JoinedText, Row, as_pfa, as_pfb, begins_pfa, ending, follow, joined_of, payload, payload_of, row_of, segment_of, segment_of_length, segment_of_type, with_front}
use Rattle.t1_seal.specs.Laws.Segments.{CutFilesTellOfLoss, TellsOfLoss}
use Rattle.t1_seal.proofs.Rows.{row_step}

-- A row is read, and nothing follows its end segment.
abbrev IsClosed : Result Row SealError → Type 0
IsClosed (Ok row) = row.trailing ≡ false
IsClosed (Err e) = ⊥

-- A segment is cut short, or no end segment closes the row.
abbrev IsCut : Result Row SealError → Type 0
IsCut (Ok row) = row.end_segment ≡ false
IsCut (Err e) = e ≡ CutShort

closed_behind : (front : List ℕ) (row : Result Row SealError) → IsClosed (with_front front row) → IsClosed row
closed_behind front (Ok row) closed = closed
closed_behind front (Err e) closed = closed

cut_behind : (front : List ℕ) (row : Result Row SealError) → IsCut row → IsCut (with_front front row)
cut_behind front (Ok row) is = is
cut_behind front (Err e) is = is

some_behind : (bytes lost : List ℕ) → 0 < length lost → not (length (bytes ++ lost) == 0) ≡ true
some_behind bytes lost some =
    let more = length-append bytes lost in
    ap not (ne_eqb (length (bytes ++ lost)) 0 (λ none. omega (arith, some, more, none)))

module _ (lost : List ℕ) (some : 0 < length lost) where
  -- what is left of a row of fewer bytes
  abbrev AreCutBelow : ℕ → Type 0
  AreCutBelow n = (left : List ℕ) → length left < n → IsClosed (row_of (left ++ lost)) → IsCut (row_of left)

  cut_payload : (n : ℕ) (left : List ℕ) → AreCutBelow (suc (length left)) → IsClosed (follow row_of (payload_of n (left ++ lost)))
      → IsCut (follow row_of (payload_of n left))
  cut_payload n left below closed = by_size (nat_lt (length left) n) refl
    where
      by_size : (short : Bool) → nat_lt (length left) n ≡ short
          → IsCut (follow row_of (cond short (Err CutShort) (Ok (payload (take n left) (drop n left)))))
      by_size true is = refl
      by_size false is =
          let fits : n ≤ length left = ltb-false (length left) n is in
          let more = length-append left lost in
          let whole : IsClosed (follow row_of (Ok (payload (take n (left ++ lost)) (drop n (left ++ lost))))) =
          subst (λ (short : Bool). IsClosed (follow row_of (cond short (Err CutShort) (Ok (payload (take n (left ++ lost)) (drop n (left ++ lost)))))))
          (le-ltb (length (left ++ lost)) n (omega (arith, fits, more))) closed in
          let rest : IsClosed (row_of (drop n left ++ lost)) =
          subst (λ bytes. IsClosed (row_of bytes)) (drop-append-le n left lost fits)
          (closed_behind (take n (left ++ lost)) (row_of (drop n (left ++ lost))) whole) in
          let shorter = length-drop n left in
          cut_behind (take n left) (row_of (drop n left)) (below (drop n left) (omega (arith, shorter)) rest)

  cut_sized : (left : List ℕ) → AreCutBelow (suc (length left)) → IsClosed (follow row_of (segment_of_length (left ++ lost)))
      → IsCut (follow row_of (segment_of_length left))
  cut_sized [] below closed = refl
  cut_sized (a ∷ []) below closed = refl
  cut_sized (a ∷ b ∷ []) below closed = refl
  cut_sized (a ∷ b ∷ c ∷ []) below closed = refl
  cut_sized (a ∷ b ∷ c ∷ d ∷ left) below closed =
      cut_payload (from_le_bytes w32 (a ∷ b ∷ c ∷ d ∷ [])) left (λ rest shorter. below rest (omega (arith, shorter))) closed

  cut_typed : (left : List ℕ) → AreCutBelow (suc (length left)) → IsClosed (follow row_of (segment_of_type (left ++ lost)))
      → IsCut (follow row_of (segment_of_type left))
  cut_typed [] below closed = refl
  cut_typed (t ∷ left) below closed = by_type (t == 3) (t == 1 || t == 2) closed
    where
      by_type : (end other : Bool)
          → IsClosed (follow row_of (cond end (Ok (ending (left ++ lost))) (cond other (segment_of_length (left ++ lost)) (Err BadHeader))))
          → IsCut (follow row_of (cond end (Ok (ending left)) (cond other (segment_of_length left) (Err BadHeader))))
      by_type true other behind = absurd (true≢false (sym (some_behind left lost some) ∙ behind))
      by_type false true closed = cut_sized left (λ rest shorter. below rest (omega (arith, shorter))) closed
      by_type false false closed = absurd closed

  cut_segment : (left : List ℕ) → AreCutBelow (length left) → IsClosed (follow row_of (segment_of (left ++ lost)))
      → IsCut (follow row_of (segment_of left))
  unfolding segment_of
  cut_segment [] below closed = refl
  cut_segment (x ∷ left) below closed = by_first (x == 128) closed
    where
      by_first : (is : Bool) → IsClosed (follow row_of (cond is (segment_of_type (left ++ lost)) (Err BadHeader)))
          → IsCut (follow row_of (cond is (segment_of_type left) (Err BadHeader)))
      by_first true closed = cut_typed left (λ rest shorter. below rest (omega (arith, shorter))) closed
      by_first false closed = absurd closed

  cut_rows : (n : ℕ) → AreCutBelow n
  cut_rows zero left shorter closed = absurd (omega (arith, shorter))
  cut_rows (suc n) left shorter closed =
      subst IsCut (sym (row_step left))
      (cut_segment left (λ rest less. cut_rows n rest (omega (arith, shorter, less))) (subst IsClosed (row_step (left ++ lost)) closed))

-- ---- files

closed_row : (row : Result Row SealError) (whole : JoinedText) → as_pfb row ≡ Ok whole → whole.trailing ≡ false → IsClosed row
closed_row (Ok row) whole is closed = ap (λ (r : Result JoinedText SealError). elim r [ Ok joined ↦ joined.trailing | Err e ↦ false ]) is ∙ closed
closed_row (Err e) whole is closed = cc

tells : (x : ℕ) (left : List ℕ) (row : Result Row SealError) → IsCut row → TellsOfLoss (x ∷ left) (as_pfb row)
tells x left (Ok row) is = (refl, is)
tells x left (Err e) is = is

not_pfa : (test : Bool) (bytes : List ℕ) (whole : JoinedText) → cond test (Ok (as_pfa bytes)) (Err NotAFont) ≡ Ok whole → whole.pfb ≡ true → ⊥
not_pfa true bytes whole is pfb =
    true≢false (sym (ap (λ (r : Result JoinedText SealError). elim r [ Ok joined ↦ joined.pfb | Err e ↦ false ]) is ∙ pfb))
not_pfa false bytes whole is pfb = cc

pub cut_files_tell : CutFilesTellOfLoss
unfolding joined_of
cut_files_tell [] lost whole some is pfb closed = refl
cut_files_tell (x ∷ left) lost whole some is pfb closed = by_first (x == 128) is
  where
    by_first : (first : Bool)
        → cond first (as_pfb (row_of (x ∷ (left ++ lost))))
        (cond (begins_pfa (x ∷ (left ++ lost))) (Ok (as_pfa (x ∷ (left ++ lost)))) (Err NotAFont)) ≡ Ok whole
        → TellsOfLoss (x ∷ left) (cond first (as_pfb (row_of (x ∷ left))) (cond (begins_pfa (x ∷ left)) (Ok (as_pfa (x ∷ left))) (Err NotAFont)))
    by_first true is =
        tells x left (row_of (x ∷ left))
        (cut_rows lost some (suc (length (x ∷ left))) (x ∷ left) (omega arith) (closed_row (row_of (x ∷ (left ++ lost))) whole is closed))
    by_first false is = absurd (not_pfa (begins_pfa (x ∷ (left ++ lost))) (x ∷ (left ++ lost)) whole is pfb)
