-- Known faults: how often each kind of fault is known of a font, by rows of a file.
use Rattle.std.specs.Prelude.{◌≡◌, ℕ, ◌<◌, length, ◌==◌, ◌&&◌, ◌||◌, nat_lt, Bool, true, not, List, [], ◌∷◌, ◌++◌, codes, filter, map, Option, None, Some, if◌then◌else◌}
use Rattle.std.specs.Fmt.{decimal}
use Rattle.std.specs.List.{concat, count_by, flat_map, list_all, list_any}
use Rattle.std.specs.Option.{is_some}
use Rattle.std.specs.Str.{bytes_eq}
use Rattle.std.specs.Str.Parse.{digits_value}
use Rattle.t1_scan.specs.Bytes.{is_decimal_digit}
use Rattle.t1_lines.specs.Lines.{FaultLineValue, PlaceValue}
use Rattle.t1_rules.specs.declared.rule.Rule.{Rule}
use Rattle.t1_many.specs.Choice.{Choice, is_told}
use Rattle.t1_many.specs.Kinds.{counted_by, kind_text, unit_of}

-- ---- kinds

-- The kind of a fault, by its rule and its place: `RULE font KEY`, `RULE glyph NAME` or `RULE waiver NAME RULE`.
abbrev pub kind_at : Rule → PlaceValue → List ℕ
kind_at rule place = kind_text (record { rule = rule; unit = unit_of place })

abbrev pub kind_of : FaultLineValue → List ℕ
kind_of l = kind_text (counted_by l)

-- A kind begins with the code of its rule.
abbrev pub rule_of : List ℕ → List ℕ
rule_of [] = []
rule_of (byte ∷ bytes) = if byte == 32 then [] else byte ∷ rule_of bytes

abbrev pub is_word : List ℕ → Bool
is_word text = list_all (λ byte. not (byte == 32)) text

-- A text is a kind: a rule's word, and the words of a unit, none of which has a blank.
pub data IsKind (kind : List ℕ) : Type 0 where
  of_font :
      (rule key : List ℕ) → is_word rule ≡ true → is_word key ≡ true → kind ≡ concat (rule ∷ codes " font " ∷ key ∷ []) → IsKind kind
  of_glyph :
      (rule name : List ℕ) → is_word rule ≡ true → is_word name ≡ true → kind ≡ concat (rule ∷ codes " glyph " ∷ name ∷ []) → IsKind kind
  of_waiver :
      (rule name waived : List ℕ) → is_word rule ≡ true → is_word name ≡ true → is_word waived ≡ true
      → kind ≡ concat (rule ∷ codes " waiver " ∷ name ∷ codes " " ∷ waived ∷ []) → IsKind kind

-- ---- rows

pub record RowValue : Type 0 where
  -- How often, by decimal digits as they are.
  pub count : List ℕ
  pub kind : List ℕ
  -- The font's name.
  pub font : List ℕ

-- A row that is one: of decimal digits, a kind and a font's name.
pub record IsRow (row : RowValue) : Type 0 where
  pub counts : 0 < length row.count
  pub count : list_all is_decimal_digit row.count ≡ true
  pub kind : IsKind row.kind
  pub font : 0 < length row.font

-- `COUNT KIND FONT`, ended by byte 10.
abbrev pub row_text : RowValue → List ℕ
row_text row = concat (row.count ∷ codes " " ∷ row.kind ∷ codes " " ∷ row.font ∷ codes "\n" ∷ [])

-- The whole file.
abbrev pub file_text : List RowValue → List ℕ
file_text rows = codes "# Known faults: count, rule, unit, font.\n" ++ flat_map row_text rows

-- ---- what goes beyond

-- How often a kind is known of a font; 0 where no row says it.
abbrev pub known_count : List RowValue → List ℕ → List ℕ → ℕ
known_count [] font kind = 0
known_count (row ∷ rows) font kind =
    if bytes_eq row.font font && bytes_eq row.kind kind then digits_value 10 row.count else known_count rows font kind

abbrev pub found_count : List (List ℕ) → List ℕ → ℕ
found_count kinds kind = count_by (bytes_eq kind) kinds

-- Of a font's lines those whose kind is found more often than it is known: all of a kind, or none.
abbrev pub beyond : List RowValue → List ℕ → List FaultLineValue → List FaultLineValue
beyond rows font lines =
    filter (λ l. nat_lt (known_count rows font (kind_of l)) (found_count (map kind_of lines) (kind_of l))) lines

-- ---- rows that are judged

-- A font whose report was made, and the kinds of its lines that are reported, in their order.
pub record Reading : Type 0 where
  pub font : List ℕ
  pub kinds : List (List ℕ)

-- The kinds that were found in a font, if its report was made.
abbrev pub kinds_in : List Reading → List ℕ → Option (List (List ℕ))
kinds_in [] font = None
kinds_in (reading ∷ readings) font = if bytes_eq reading.font font then Some reading.kinds else kinds_in readings font

-- A row is judged where the report of its font was made, and its rule is reported.
abbrev pub is_judged : Choice → List Reading → RowValue → Bool
is_judged choice readings row = is_some (kinds_in readings row.font) && is_told choice (rule_of row.kind)

-- `FONT: known faults: KIND: COUNT known, FOUND found`.
abbrev pub mismatch_text : RowValue → ℕ → List ℕ
mismatch_text row found = concat
    (row.font ∷ codes ": known faults: " ∷ row.kind ∷ codes ": " ∷ row.count ∷ codes " known, " ∷ decimal found ∷ codes " found\n" ∷ [])

-- Another number is found than is known.
abbrev pub differs : ℕ → ℕ → Bool
differs found known = nat_lt found known || nat_lt known found

-- What is reported of a row of whose kind so many were found: nothing where they are as many as it says.
abbrev pub mismatch_at : RowValue → ℕ → List ℕ
mismatch_at row found = if differs found (digits_value 10 row.count) then mismatch_text row found else []

-- What is reported of a row.
abbrev pub mismatch_in : Choice → RowValue → Option (List (List ℕ)) → List ℕ
mismatch_in choice row None = []
mismatch_in choice row (Some kinds) = if is_told choice (rule_of row.kind) then mismatch_at row (found_count kinds row.kind) else []

abbrev pub mismatch : Choice → List Reading → RowValue → List ℕ
mismatch choice readings row = mismatch_in choice row (kinds_in readings row.font)

-- ---- the rows from now on

-- Each kind once, in the order of the first fault of each.
abbrev pub distinct : List (List ℕ) → List (List ℕ)
distinct [] = []
distinct (kind ∷ kinds) = kind ∷ filter (λ other. not (bytes_eq kind other)) (distinct kinds)

-- Each of them with how often it was found.
abbrev pub counts_of : List (List ℕ) → List (List ℕ × ℕ)
counts_of kinds = map (λ kind. (kind, found_count kinds kind)) (distinct kinds)

-- The rows of a font: what was found.
abbrev pub rows_of : List ℕ → List (List ℕ) → List RowValue
rows_of font kinds = map (λ kind. record { count = decimal (found_count kinds kind); kind = kind; font = font }) (distinct kinds)

abbrev pub rows_in : List ℕ → Option (List (List ℕ)) → List RowValue
rows_in font None = []
rows_in font (Some kinds) = rows_of font kinds

abbrev pub is_among : List (List ℕ) → List ℕ → Bool
is_among fonts font = list_any (bytes_eq font) fonts

-- The rows of the fonts that were read and aren't done.
abbrev pub rows_behind : List Reading → List (List ℕ) → List Reading → List RowValue
rows_behind all done [] = []
rows_behind all done (reading ∷ readings) =
    if is_among done reading.font then rows_behind all done readings
    else rows_in reading.font (kinds_in all reading.font) ++ rows_behind all (reading.font ∷ done) readings

-- The rows that are written in the place of these. One that isn't judged stays as it was. The first one of a font that
-- is judged is replaced by all that were found in it. Those of fonts without such a row come after all others.
abbrev pub updated_behind : Choice → List Reading → List (List ℕ) → List RowValue → List RowValue
updated_behind choice readings done [] = rows_behind readings done readings
updated_behind choice readings done (row ∷ rows) =
    if is_judged choice readings row
    then (if is_among done row.font then updated_behind choice readings done rows
    else rows_in row.font (kinds_in readings row.font) ++ updated_behind choice readings (row.font ∷ done) rows)
    else row ∷ updated_behind choice readings done rows

abbrev pub updated : Choice → List Reading → List RowValue → List RowValue
updated choice readings rows = updated_behind choice readings [] rows
