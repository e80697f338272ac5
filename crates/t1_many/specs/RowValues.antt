-- Rows that were read of a file of known faults.
use Rattle.std.specs.Prelude.{◌≡◌, ◌++◌, ℕ, List, codes}
use Rattle.t1_many.specs.KnownFaults.{IsRow, RowValue, row_text}
use Rattle.t1_many.specs.declared.row.Row.{Row}

abbrev pub row_value : Row → RowValue
row_value row = record { count = row.count.now; kind = row.kind.now; font = row.font.now }

-- A line, without its end, is that of no row.
abbrev pub IsNoRow : List ℕ → Type 0
IsNoRow line = (row : RowValue) → IsRow row → row_text row ≡ line ++ codes "\n" → ⊥
