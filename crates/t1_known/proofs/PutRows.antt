-- Rows that are written anew, one after another.
-- What was written so far and what is left to write make one text at each row; at the end nothing is left.
use Rattle.std.proofs.Common.{◌≡◌, ◌<◌, ◌+◌, ◌&&◌, ℕ, suc, Bool, true, false, List, [], ◌∷◌, ◌++◌, length, drop, get_or, Option, None, Some, cond, is_some, inl, inr, refl, sym, ap, ap₂, subst, ◌∙◌, arith, append-nil, map, string_bytes, Result, Ok, Err}
use Rattle.std.specs.Result.{IsErrAnd}
use Rattle.std.proofs.Math.Seq.{drop-cons}
use Rattle.std.proofs.lemmas.Bool.{cases_Bool}
use Rattle.std.proofs.lemmas.Grind.{flat_map-append}
use Rattle.std.specs.Fmt.{decimal}
use Rattle.std.specs.Global.{Global}
use Rattle.std.specs.List.{flat_map}
use Rattle.std.specs.Str.{bytes_eq}
use Rattle.std.specs.declared.vec.Vec.{Vec}
use Rattle.t1_io.proofs.SinkLemmas.{PutFailed-second, Wrote-trans}
use Rattle.t1_io.specs.Devices.{PutFailed, SinkState, Wrote}
use Rattle.t1_many.proofs.Texts.{equal}
use Rattle.t1_many.specs.Choice.{Choice, is_told}
use Rattle.t1_many.specs.KnownFaults.{Reading, RowValue, distinct, found_count, is_among, is_judged, kinds_in, row_text, rows_behind, rows_in, rows_of, rule_of, updated, updated_behind}
use Rattle.t1_many.specs.Readings.{IsReadingOf, counts_in}
use Rattle.t1_many.specs.declared.readings.Reading.{Reading as Kept}
use Rattle.t1_known.proofs.LeftRows.{Takes, takes}
use Rattle.t1_known.proofs.LeftRows.Takes.{again, first, unread}
use Rattle.t1_known.proofs.Told.{HasTold, told_failed, told_more}
use Rattle.t1_known.specs.Private.Fonts.{FontsLeft, IsLeft, IsTaken, count_text, first_of, left_at, left_text, row_of, rows_text}
use Rattle.t1_known.specs.Private.Updates.{HavePut, LeavesBy, PutsRows, behind_text, row_or, row_put, updated_text}
use Rattle.t1_known.specs.Readings.{AreReadingsOf}

no_more : {X : Type 0} (a : Bool) (x y : X) → cond (a && false) x y ≡ y
no_more true x y = refl
no_more false x y = refl

-- ---- the text, one row further

module _ (row : RowValue) (found : Option Kept) (told among : Bool) (left : Option (Option Kept)) (rest more : List ℕ) where
  abbrev text_by : List ℕ
  text_by = cond (is_some found && told) (cond among rest (left_text found ++ more)) (row_text row ++ rest)

  abbrev put_by : List ℕ
  put_by = cond told (row_or row left) (row_text row)

  left_out : told ≡ false → text_by ≡ put_by ++ rest
  left_out is = rw is (no_more (is_some found) (cond among rest (left_text found ++ more)) (row_text row ++ rest))

  unread_text : told ≡ true → found ≡ None → left ≡ None → text_by ≡ put_by ++ rest
  unread_text is none nothing = rw (is, none, nothing) refl

  again_text : (kept : Kept) → told ≡ true → found ≡ Some kept → among ≡ true → left ≡ Some None → text_by ≡ put_by ++ rest
  again_text kept is some there empty = rw (is, some, there, empty) refl

  first_text : (kept : Kept) → told ≡ true → found ≡ Some kept → among ≡ false → left ≡ Some (Some kept) → text_by ≡ put_by ++ more
  first_text kept is some out all_left = rw (is, some, out, all_left) refl

-- After a part of the text these fonts are done.
pub record IsNext (all : List Kept) (left : FontsLeft) (text part : List ℕ) (rest : List (List ℕ) → List ℕ) : Type 0 where
  pub done : List (List ℕ)
  pub left_is : IsLeft all done left
  pub split : text ≡ part ++ rest done

module _ (choice : Choice) (all : List Kept) (done : List (List ℕ)) (old new : FontsLeft) (is : IsLeft all done old) (row : RowValue)
    (rows : List RowValue) where
  abbrev row_found : Option Kept
  row_found = first_of all row.font

  abbrev row_told : Bool
  row_told = is_told choice (rule_of row.kind)

  abbrev row_among : Bool
  row_among = is_among done row.font

  abbrev row_left : Option (Option Kept)
  row_left = left_at old row.font

  abbrev row_rest : List ℕ
  row_rest = updated_text choice all done rows

  abbrev row_more : List ℕ
  row_more = updated_text choice all (row.font ∷ done) rows

  by_takes : is_told choice (rule_of row.kind) ≡ true → (taken : IsTaken row.font old new) → Takes all done row.font old new is taken
      → IsNext all new (updated_text choice all done (row ∷ rows)) (row_put choice old row) (λ d. updated_text choice all d rows)
  by_takes so taken (unread none nothing stays done_too) = record {
    done = done;
    left_is = stays;
    split = unread_text row row_found row_told row_among row_left row_rest row_more so none nothing;
  }
  by_takes so taken (again text some there empty stays) = record {
    done = done;
    left_is = stays;
    split = again_text row row_found row_told row_among row_left row_rest row_more text so some there empty;
  }
  by_takes so taken (first text some out all_left now) = record {
    done = row.font ∷ done;
    left_is = now;
    split = first_text row row_found row_told row_among row_left row_rest row_more text so some out all_left;
  }

  pub row_next : LeavesBy (is_told choice (rule_of row.kind)) row.font old new
      → IsNext all new (updated_text choice all done (row ∷ rows)) (row_put choice old row) (λ d. updated_text choice all d rows)
  row_next leaves = elim (cases_Bool (is_told choice (rule_of row.kind))) [
    | inl told ↦
        let taken : IsTaken row.font old new = subst (λ b. LeavesBy b row.font old new) told leaves in
        by_takes told taken (takes all done row.font old new is taken)
    | inr out ↦
        let stays : LeavesBy false row.font old new = subst (λ b. LeavesBy b row.font old new) out leaves in
        record {
          done = done;
          left_is = λ other. stays other ∙ is other;
          split = left_out row row_found row_told row_among row_left row_rest row_more out;
        }
  ]

-- ---- the texts of the other fonts

module _ (found : Option Kept) (among : Bool) (left : Option (Option Kept)) (rest more : List ℕ) where
  abbrev behind_by : List ℕ
  behind_by = cond among rest (left_text found ++ more)

  unread_there : found ≡ None → among ≡ true → left ≡ None → behind_by ≡ rows_text left ++ rest
  unread_there none there nothing = rw (none, there, nothing) refl

  unread_out : found ≡ None → among ≡ false → left ≡ None → behind_by ≡ rows_text left ++ more
  unread_out none out nothing = rw (none, out, nothing) refl

  again_behind : (kept : Kept) → among ≡ true → left ≡ Some None → behind_by ≡ rows_text left ++ rest
  again_behind kept there empty = rw (there, empty) refl

  first_behind : (kept : Kept) → found ≡ Some kept → among ≡ false → left ≡ Some (Some kept) → behind_by ≡ rows_text left ++ more
  first_behind kept some out all_left = rw (some, out, all_left) refl

module _ (all : List Kept) (done : List (List ℕ)) (old new : FontsLeft) (is : IsLeft all done old) (text : Kept) (texts : List Kept)
    (taken : IsTaken (string_bytes text.font) old new) where
  abbrev text_found : Option Kept
  text_found = first_of all (string_bytes text.font)

  abbrev text_among : Bool
  text_among = is_among done (string_bytes text.font)

  abbrev text_left : Option (Option Kept)
  text_left = left_at old (string_bytes text.font)

  abbrev text_rest : List ℕ
  text_rest = behind_text all done texts

  abbrev text_more : List ℕ
  text_more = behind_text all (string_bytes text.font ∷ done) texts

  by_case : Takes all done (string_bytes text.font) old new is taken
      → IsNext all new (behind_text all done (text ∷ texts)) (rows_text (left_at old (string_bytes text.font))) (λ d. behind_text all d texts)
  by_case (unread none nothing stays done_too) = elim (cases_Bool (is_among done (string_bytes text.font))) [
    | inl there ↦ record { done = done; left_is = stays; split = unread_there text_found text_among text_left text_rest text_more none there nothing }
    | inr out ↦ record { done = string_bytes text.font ∷ done; left_is = done_too; split = unread_out text_found text_among text_left text_rest text_more none out nothing }
  ]
  by_case (again rows some there empty stays) =
      record { done = done; left_is = stays; split = again_behind text_found text_among text_left text_rest text_more rows there empty }
  by_case (first rows some out all_left now) =
      record { done = string_bytes text.font ∷ done; left_is = now; split = first_behind text_found text_among text_left text_rest text_more rows some out all_left }

  pub text_next : IsNext all new (behind_text all done (text ∷ texts)) (rows_text (left_at old (string_bytes text.font))) (λ d. behind_text all d texts)
  text_next = by_case (takes all done (string_bytes text.font) old new is taken)

-- ---- what was put

pub none_put : (all : List Kept) (done : List (List ℕ)) (rest : List (List ℕ) → List ℕ) (old : SinkState) (left : FontsLeft) → IsLeft all done left
    → Wrote old old [] → HavePut all (rest done) rest old old left
none_put all done rest old left is nothing = record { done = done; so_far = []; left_is = is; wrote = nothing; split = refl }

module _ (all : List Kept) (whole : List ℕ) (rest : List (List ℕ) → List ℕ) (old now next : SinkState) (left new : FontsLeft)
    (have : HavePut all whole rest old now left) (part : List ℕ) (more : List (List ℕ) → List ℕ)
    (step : IsNext all new (rest have.done) part more) where
  told : HasTold old now whole (rest have.done)
  told = record { so_far = have.so_far; wrote = have.wrote; split = have.split }

  pub one_put : Wrote now next part → HavePut all whole more old next new
  one_put wrote =
      let further = told_more old now whole (rest have.done) part (more step.done) told step.split next wrote in
      record { done = step.done; so_far = further.so_far; left_is = step.left_is; wrote = further.wrote; split = further.split }

  pub put_failed : PutFailed now next part → PutFailed old next whole
  put_failed failed = told_failed old now whole (rest have.done) part (more step.done) told step.split next failed

-- the last part
module _ (all : List Kept) (whole : List ℕ) (rest : List (List ℕ) → List ℕ) (old now next : SinkState) (left : FontsLeft)
    (have : HavePut all whole rest old now left) where
  pub last_put : Wrote now next (rest have.done) → Wrote old next whole
  last_put wrote = subst (Wrote old next) have.split (Wrote-trans old now next have.so_far (rest have.done) have.wrote wrote)

  pub last_failed : PutFailed now next (rest have.done) → PutFailed old next whole
  last_failed failed = subst (PutFailed old next) have.split (PutFailed-second old now next have.so_far (rest have.done) have.wrote failed)

pub all_put : (all : List Kept) (whole : List ℕ) (rest : List (List ℕ) → List ℕ) (old now : SinkState) (left : FontsLeft)
    (have : HavePut all whole rest old now left) → rest have.done ≡ [] → Wrote old now whole
all_put all whole rest old now left have end =
    subst (Wrote old now) (sym (append-nil have.so_far) ∙ ap (λ t. have.so_far ++ t) (sym end) ∙ have.split) have.wrote

pub drop_next : (texts : List Kept) (i : ℕ) (d : Kept) → i < length texts → drop i texts ≡ get_or texts i d ∷ drop (i + 1) texts
drop_next texts i d within =
    let next : suc i ≡ i + 1 = omega arith in
    drop-cons texts i d within ∙ ap (λ (n : ℕ). get_or texts i d ∷ drop n texts) next

-- the text of a font more
module _ (texts : List Kept) (i : ℕ) (d : Kept) (whole : List ℕ) (old now next : SinkState) (left new : FontsLeft) (within : i < length texts)
    (have : HavePut texts whole (λ done. behind_text texts done (drop i texts)) old now left) (font : List ℕ) (font_is : font ≡ string_bytes (get_or texts i d).font)
    (taken : IsTaken font left new) where
  here : HavePut texts whole (λ done. behind_text texts done (get_or texts i d ∷ drop (i + 1) texts)) old now left
  here = subst (λ (ts : List Kept). HavePut texts whole (λ done. behind_text texts done ts) old now left) (drop_next texts i d within) have

  step : IsNext texts new (behind_text texts here.done (get_or texts i d ∷ drop (i + 1) texts)) (rows_text (left_at left (string_bytes (get_or texts i d).font)))
      (λ done. behind_text texts done (drop (i + 1) texts))
  step =
      text_next texts here.done left new here.left_is (get_or texts i d) (drop (i + 1) texts)
      (subst (λ f. IsTaken f left new) font_is taken)

  pub text_put : Wrote now next (rows_text (left_at left font)) → HavePut texts whole (λ done. behind_text texts done (drop (i + 1) texts)) old next new
  text_put wrote =
      one_put texts whole (λ done. behind_text texts done (get_or texts i d ∷ drop (i + 1) texts)) old now next left new here
      (rows_text (left_at left (string_bytes (get_or texts i d).font))) (λ done. behind_text texts done (drop (i + 1) texts)) step
      (subst (λ f. Wrote now next (rows_text (left_at left f))) font_is wrote)

  pub text_failed : PutFailed now next (rows_text (left_at left font)) → PutFailed old next whole
  text_failed failed =
      put_failed texts whole (λ done. behind_text texts done (get_or texts i d ∷ drop (i + 1) texts)) old now next left new here
      (rows_text (left_at left (string_bytes (get_or texts i d).font))) (λ done. behind_text texts done (drop (i + 1) texts)) step
      (subst (λ f. PutFailed now next (rows_text (left_at left f))) font_is failed)

-- ---- the text is that of the updated rows

counts_text : (font : List ℕ) (entries : List (Vec ℕ Global × ℕ))
    → flat_map (count_text font) entries ≡ flat_map row_text (map (λ (c : List ℕ × ℕ). row_of font c.0 c.1) (counts_in entries))
counts_text font [] = refl
counts_text font (e ∷ entries) = ap (λ t. count_text font e ++ t) (counts_text font entries)

counted_rows : (font : List ℕ) (f : List ℕ → ℕ) (kinds : List (List ℕ))
    → map (λ (c : List ℕ × ℕ). row_of font c.0 c.1) (map {B = List ℕ × ℕ} (λ kind. (kind, f kind)) kinds)
    ≡ map (λ (kind : List ℕ). record { count = decimal (f kind); kind = kind; font = font }) kinds
counted_rows font f [] = refl
counted_rows font f (kind ∷ kinds) = ap (λ (rows : List RowValue). row_of font kind (f kind) ∷ rows) (counted_rows font f kinds)

text_same : (kept : Kept) (reading : Reading) → IsReadingOf kept reading
    → left_text (Some kept) ≡ flat_map row_text (rows_of reading.font reading.kinds)
text_same kept reading is =
    counts_text (string_bytes kept.font) kept.counts.entries
    ∙ ap₂ (λ font (counts : List (List ℕ × ℕ)). flat_map row_text (map (λ (c : List ℕ × ℕ). row_of font c.0 c.1) counts)) is.font is.counts
    ∙ ap (flat_map row_text) (counted_rows reading.font (found_count reading.kinds) (distinct reading.kinds))

module _ (choice : Choice) (texts : List Kept) (readings : List Reading) (are : AreReadingsOf texts readings) where
  rows_same : (some : List Kept) (of : List Reading) → AreReadingsOf some of → (font : List ℕ)
      → (is_some (first_of some font) ≡ is_some (kinds_in of font)) × (left_text (first_of some font) ≡ flat_map row_text (rows_in font (kinds_in of font)))
  rows_same [] [] same font = (refl, refl)
  rows_same [] (reading ∷ of) same font = absurd same
  rows_same (text ∷ some) [] same font = absurd same
  rows_same (text ∷ some) (reading ∷ of) same font = elim (cases_Bool (bytes_eq reading.font font)) [
    | inl here ↦
        let is : reading.font ≡ font = equal reading.font font here in
        let there : bytes_eq (string_bytes text.font) font ≡ true = ap (λ f. bytes_eq f font) same.0.font ∙ here in
        rw (here, there) (refl, text_same text reading same.0 ∙ ap (λ f. flat_map row_text (rows_of f reading.kinds)) is)
    | inr other ↦
        let there : bytes_eq (string_bytes text.font) font ≡ false = ap (λ f. bytes_eq f font) same.0.font ∙ other in
        rw (other, there) (rows_same some of same.1 font)
  ]

  rows_join : (font : List ℕ) (text : List ℕ) (rows : List RowValue) → text ≡ flat_map row_text rows
      → left_text (first_of texts font) ++ text ≡ flat_map row_text (rows_in font (kinds_in readings font) ++ rows)
  rows_join font text rows is =
      ap₂ (λ a b. a ++ b) (rows_same texts readings are font).1 is ∙ sym (flat_map-append row_text (rows_in font (kinds_in readings font)) rows)

  behind_same : (done : List (List ℕ)) (some : List Kept) (of : List Reading) → AreReadingsOf some of
      → behind_text texts done some ≡ flat_map row_text (rows_behind readings done of)
  behind_same done [] [] same = refl
  behind_same done [] (reading ∷ of) same = absurd same
  behind_same done (text ∷ some) [] same = absurd same
  behind_same done (text ∷ some) (reading ∷ of) same =
      ap (λ f. cond (is_among done f) (behind_text texts done some) (left_text (first_of texts f) ++ behind_text texts (f ∷ done) some)) same.0.font
      ∙ elim (cases_Bool (is_among done reading.font)) [
        | inl there ↦ rw there (behind_same done some of same.1)
        | inr out ↦ rw out (rows_join reading.font _ (rows_behind readings (reading.font ∷ done) of) (behind_same (reading.font ∷ done) some of same.1))
      ]

  same_text : (done : List (List ℕ)) (rows : List RowValue)
      → updated_text choice texts done rows ≡ flat_map row_text (updated_behind choice readings done rows)
  same_text done [] = behind_same done texts readings are
  same_text done (row ∷ rows) =
      ap (λ b. cond (b && is_told choice (rule_of row.kind))
      (cond (is_among done row.font) (updated_text choice texts done rows)
      (left_text (first_of texts row.font) ++ updated_text choice texts (row.font ∷ done) rows))
      (row_text row ++ updated_text choice texts done rows)) (rows_same texts readings are row.font).0
      ∙ elim (cases_Bool (is_judged choice readings row)) [
        | inl judged ↦ rw judged (elim (cases_Bool (is_among done row.font)) [
          | inl there ↦ rw there (same_text done rows)
          | inr out ↦ rw out (rows_join row.font _ (updated_behind choice readings (row.font ∷ done) rows) (same_text (row.font ∷ done) rows))
        ])
        | inr stays ↦ rw stays (ap (λ t. row_text row ++ t) (same_text done rows))
      ]

  pub updated_same : (rows : List RowValue) → updated_text choice texts [] rows ≡ flat_map row_text (updated choice readings rows)
  updated_same rows = same_text [] rows

-- the exit of a `?` at a row that failed
pub rows_failed : {E : Type 0} (P : E → Type 0) (choice : Choice) (rows : List RowValue) (old new : SinkState) (left left' : FontsLeft)
    (result : Result (Unit {0}) E) → IsErrAnd result P → ((all : List Kept) → IsLeft all [] left → PutFailed old new (updated_text choice all [] rows))
    → PutsRows choice rows (record { sink = old; left = left }) (record { sink = new; left = left' }) result
rows_failed P choice rows old new left left' (Ok put) is failed = absurd is
rows_failed P choice rows old new left left' (Err e) is failed = failed
