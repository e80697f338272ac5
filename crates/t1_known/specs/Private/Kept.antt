-- Rows as the program keeps them, by their keys.
use Rattle.std.specs.Prelude.{◌≡◌, ◌<◌, ℕ, true, false, List, [], ◌∷◌, ◌++◌, length, map, Option, None, Some, Result, Ok, Err}
use Rattle.std.specs.Borrow.{Bor}
use Rattle.std.specs.List.{AllByRecursion}
use Rattle.t1_known.specs.Keys.{has_key, key_of}
use Rattle.t1_known.specs.Lines.{lines_of}
use Rattle.t1_known.specs.Reads.{IsLineOf}
use Rattle.t1_known.specs.declared.known.Line.{Line}
use Rattle.t1_known.specs.declared.known.NotKnown.{NotKnown}
use Rattle.t1_known.specs.declared.known.NotKnown.TheVariants.{Memory, NoRow, Twice}
use Rattle.t1_many.specs.KnownFaults.{IsRow, RowValue}
use Rattle.t1_many.specs.RowValues.{IsNoRow, row_value}
use Rattle.t1_many.specs.declared.row.Row.{Row}

abbrev pub Entry : Type 0
Entry = Bor (List ℕ) × Row

abbrev pub rows_now : List Entry → List RowValue
rows_now entries = map (λ e. row_value e.1) entries

-- A row is kept by its key.
abbrev pub IsKept : Entry → Type 0
IsKept entry = IsRow (row_value entry.1) × (entry.0.now ≡ key_of (row_value entry.1))

abbrev pub AreKept : List Entry → Type 0
AreKept entries = AllByRecursion IsKept entries

-- One row more is kept, that of a line whose key no row has.
pub record KeepsLine (line : List ℕ) (old new : List Entry) : Type 0 where
  pub entry : Entry
  pub new_is : new ≡ old ++ entry ∷ []
  pub kept : IsKept entry
  pub line_is : IsLineOf line (row_value entry.1)
  pub once : has_key (rows_now old) (key_of (row_value entry.1)) ≡ false

-- The row of a line has a key that an earlier one has.
pub record IsKnownKey (line : List ℕ) (rows : List RowValue) : Type 0 where
  pub row : RowValue
  pub is : IsLineOf line row
  pub twice : has_key rows (key_of row) ≡ true

-- What becomes of the rows by a line that has to be one.
abbrev pub Adds : Line → List Entry → List Entry → Result (Unit {0}) NotKnown → Type 0
Adds line old new (Ok done) = KeepsLine line.text.now old new
Adds line old new (Err (NoRow at)) = (at ≡ line) × IsNoRow line.text.now
Adds line old new (Err (Twice at)) = (at ≡ line) × IsKnownKey line.text.now (rows_now old)
Adds line old new (Err Memory) = Unit {0}

-- The first line of a text, and what follows it.
abbrev pub IsNextLine : List ℕ → Option (Bor (List ℕ) × Bor (List ℕ)) → Type 0
IsNextLine text None = text ≡ []
IsNextLine text (Some (line, rest)) = (lines_of text ≡ line.now ∷ lines_of rest.now) × (length rest.now < length text)
