-- What was found in fonts, by their names, as the program keeps it: nothing is left of a font whose rows were written.
use Rattle.std.specs.Global.{Global}
use Rattle.std.specs.Prelude.{◌≡◌, ◌&&◌, ℕ, Bool, List, [], ◌∷◌, ◌++◌, Option, None, Some, if◌then◌else◌, is_some, option_map, string_bytes, unwrap_or}
use Rattle.std.specs.Borrow.{Bor}
use Rattle.std.specs.Fmt.{decimal}
use Rattle.std.specs.List.{flat_map}
use Rattle.std.specs.Map.{lookup}
use Rattle.std.specs.Str.{bytes_eq}
use Rattle.std.specs.declared.vec.Vec.{Vec}
use Rattle.t1_many.specs.KnownFaults.{RowValue, is_among, row_text}
use Rattle.t1_many.specs.declared.readings.Reading.{Reading}

-- ---- one font

-- How often a kind was found.
abbrev pub count_in : List (Vec ℕ Global × ℕ) → List ℕ → ℕ
count_in counts kind = unwrap_or (lookup (λ k. bytes_eq kind k.items) counts) 0

-- The row of a kind that was found so often.
abbrev pub row_of : List ℕ → List ℕ → ℕ → RowValue
row_of font kind count = record { count = decimal count; kind = kind; font = font }

abbrev pub count_text : List ℕ → Vec ℕ Global × ℕ → List ℕ
count_text font entry = row_text (row_of font entry.0.items entry.1)

-- The rows of a font.
abbrev pub left_text : Option Reading → List ℕ
left_text None = []
left_text (Some reading) = flat_map (count_text (string_bytes reading.font)) reading.counts.entries

-- ---- all fonts

-- The first of these that is of a font.
abbrev pub first_of : List Reading → List ℕ → Option Reading
first_of [] font = None
first_of (reading ∷ readings) font = if bytes_eq (string_bytes reading.font) font then Some reading else first_of readings font

abbrev pub FontsLeft : Type 0
FontsLeft = List (Bor (List ℕ) × Option (Bor Reading))

abbrev pub now_of : Option (Bor Reading) → Option Reading
now_of reading = option_map (λ r. r.now) reading

abbrev pub left_at : FontsLeft → List ℕ → Option (Option Reading)
left_at left font = option_map now_of (lookup (λ k. bytes_eq font k.now) left)

abbrev pub rows_text : Option (Option Reading) → List ℕ
rows_text None = []
rows_text (Some left) = left_text left

-- Of fonts that are done nothing is left.
abbrev pub left_of : Option Reading → Bool → Option (Option Reading)
left_of None done = None
left_of (Some reading) done = Some (if done then None else Some reading)

abbrev pub IsLeft : List Reading → List (List ℕ) → FontsLeft → Type 0
IsLeft all done left = (font : List ℕ) → left_at left font ≡ left_of (first_of all font) (is_among done font)

-- A font more is there.
abbrev pub IsLeftToo : Reading → FontsLeft → FontsLeft → Type 0
IsLeftToo reading old new = (readings : List Reading) → IsLeft readings [] old → IsLeft (readings ++ reading ∷ []) [] new

-- What was left of a font was taken.
abbrev pub IsTaken : List ℕ → FontsLeft → FontsLeft → Type 0
IsTaken font old new =
    (other : List ℕ) → left_at new other ≡ (if bytes_eq font other && is_some (left_at old font) then Some None else left_at old other)
