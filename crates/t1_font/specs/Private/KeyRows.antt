-- What a row of the code's keys says.
use Rattle.std.specs.Prelude.{ℕ, List}
use Rattle.std.specs.Borrow.{Bor}
use Rattle.t1_font.specs.declared.key.Key.{Key}

-- The name of a key, and the key.
abbrev pub row_view : Bor (List ℕ) × Key → List ℕ × Key
row_view row = (row.0.now, row.1)
