-- The key of a row, by which it is found: its kind and its font.
use Rattle.std.specs.Prelude.{ℕ, ◌++◌, Bool, List, [], ◌∷◌, codes, if◌then◌else◌}
use Rattle.std.specs.List.{list_any}
use Rattle.std.specs.Str.{bytes_eq}
use Rattle.std.specs.Str.Parse.{digits_value}
use Rattle.t1_many.specs.KnownFaults.{RowValue}

-- `KIND FONT`
abbrev pub key_text : List ℕ → List ℕ → List ℕ
key_text kind font = kind ++ (codes " " ++ font)

abbrev pub key_of : RowValue → List ℕ
key_of row = key_text row.kind row.font

-- A row has this key.
abbrev pub has_key : List RowValue → List ℕ → Bool
has_key rows key = list_any (λ row. bytes_eq key (key_of row)) rows

-- How often the row of a key says; 0 where there is none.
abbrev pub count_at : List RowValue → List ℕ → ℕ
count_at [] key = 0
count_at (row ∷ rows) key = if bytes_eq key (key_of row) then digits_value 10 row.count else count_at rows key
