-- The new file, as the program writes it: of a font nothing is left after the first place at which its rows were written.
use Rattle.std.specs.Prelude.{◌≡◌, ◌&&◌, ℕ, Bool, List, [], ◌∷◌, ◌++◌, Option, None, Some, if◌then◌else◌, is_some, string_bytes, Result, Ok, Err}
use Rattle.std.specs.Str.{bytes_eq}
use Rattle.t1_io.specs.Devices.{PutFailed, SinkState, Wrote}
use Rattle.t1_known.specs.Private.Fonts.{FontsLeft, IsLeft, first_of, left_at, left_text}
use Rattle.t1_many.specs.Choice.{Choice, is_told}
use Rattle.t1_many.specs.KnownFaults.{RowValue, is_among, row_text, rule_of}
use Rattle.t1_many.specs.declared.readings.Reading.{Reading}

-- ---- the text

-- The rows of the fonts of these readings that aren't done.
abbrev pub behind_text : List Reading → List (List ℕ) → List Reading → List ℕ
behind_text all done [] = []
behind_text all done (reading ∷ readings) =
    if is_among done (string_bytes reading.font) then behind_text all done readings
    else left_text (first_of all (string_bytes reading.font)) ++ behind_text all (string_bytes reading.font ∷ done) readings

-- The rows that are written in the place of these, and after them.
abbrev pub updated_text : Choice → List Reading → List (List ℕ) → List RowValue → List ℕ
updated_text choice all done [] = behind_text all done all
updated_text choice all done (row ∷ rows) =
    if is_some (first_of all row.font) && is_told choice (rule_of row.kind)
    then (if is_among done row.font then updated_text choice all done rows
    else left_text (first_of all row.font) ++ updated_text choice all (row.font ∷ done) rows)
    else row_text row ++ updated_text choice all done rows

-- ---- one row

-- What is written in the place of a row whose rule is reported.
abbrev pub row_or : RowValue → Option (Option Reading) → List ℕ
row_or row None = row_text row
row_or row (Some left) = left_text left

abbrev pub row_put : Choice → FontsLeft → RowValue → List ℕ
row_put choice left row = if is_told choice (rule_of row.kind) then row_or row (left_at left row.font) else row_text row

-- What is left after it.
abbrev pub LeavesBy : Bool → List ℕ → FontsLeft → FontsLeft → Type 0
LeavesBy told font old new = (other : List ℕ)
    → left_at new other ≡ (if told && (bytes_eq font other && is_some (left_at old font)) then Some None else left_at old other)

-- ---- all rows

-- Rows were put, and of the fonts that are done nothing is left.
pub record HavePut (all : List Reading) (whole : List ℕ) (rest : List (List ℕ) → List ℕ) (old new : SinkState) (left : FontsLeft) : Type 0 where
  pub done : List (List ℕ)
  pub so_far : List ℕ
  pub left_is : IsLeft all done left
  pub wrote : Wrote old new so_far
  pub split : so_far ++ rest done ≡ whole

-- How far the new file is written: the device, and what is left of fonts.
pub record Progress : Type 0 where
  pub sink : SinkState
  pub left : FontsLeft

-- All rows were put in their places, or a write failed.
abbrev pub PutsRows : {E : Type 0} → Choice → List RowValue → Progress → Progress → Result (Unit {0}) E → Type 0
PutsRows choice rows old new (Ok put) = (all : List Reading) → IsLeft all [] old.left
    → HavePut all (updated_text choice all [] rows) (λ done. behind_text all done all) old.sink new.sink new.left
PutsRows choice rows old new (Err e) =
    (all : List Reading) → IsLeft all [] old.left → PutFailed old.sink new.sink (updated_text choice all [] rows)
