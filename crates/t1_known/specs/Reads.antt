-- What is read of a file of known faults.
use Rattle.std.specs.Prelude.{◌≡◌, ◌+◌, ℕ, true, false, List, ◌∷◌, ◌++◌, codes, length, map, Result, Ok, Err}
use Rattle.std.specs.List.{AllZip, IsDistinct}
use Rattle.std.specs.Str.{bytes_eq}
use Rattle.t1_known.specs.Keys.{has_key, key_of}
use Rattle.t1_known.specs.Lines.{is_comment, lines_of, row_lines, spoken}
use Rattle.t1_known.specs.declared.known.NotKnown.{NotKnown}
use Rattle.t1_known.specs.declared.known.NotKnown.TheVariants.{Memory, NoRow, Twice}
use Rattle.t1_many.specs.KnownFaults.{IsRow, RowValue, row_text}
use Rattle.t1_many.specs.RowValues.{IsNoRow}

-- A line, without its end, is that of a row.
abbrev pub IsLineOf : List ℕ → RowValue → Type 0
IsLineOf line row = IsRow row × (row_text row ≡ line ++ codes "\n")

-- The lines are those of these rows, one for one, and no two rows have the same key.
pub record AreLinesOf (lines : List (List ℕ)) (rows : List RowValue) : Type 0 where
  pub each : AllZip IsLineOf lines rows
  pub once : IsDistinct bytes_eq (map key_of rows)

-- Of the lines up to this one, which has this number among all lines, those that have to be rows are these rows.
pub record ReachesLine (text : List ℕ) (number : ℕ) (line : List ℕ) (rows : List RowValue) : Type 0 where
  pub front : List (List ℕ)
  pub behind : List (List ℕ)
  pub split : lines_of text ≡ front ++ line ∷ behind
  pub number_is : number ≡ length front + 1
  pub speaks : is_comment line ≡ false
  pub are : AreLinesOf (spoken front) rows

-- The first fault of a text is a line that is no row.
pub record HasNoRow (text : List ℕ) (number : ℕ) (line : List ℕ) : Type 0 where
  pub rows : List RowValue
  pub reaches : ReachesLine text number line rows
  pub none : IsNoRow line

-- Its first fault is a row whose key is in an earlier one.
pub record HasKeyTwice (text : List ℕ) (number : ℕ) (line : List ℕ) : Type 0 where
  pub rows : List RowValue
  pub reaches : ReachesLine text number line rows
  pub row : RowValue
  pub is : IsLineOf line row
  pub twice : has_key rows (key_of row) ≡ true

-- The rows that were read of a text, or its first fault; running out of memory says nothing about the text.
abbrev pub IsReadAs : List ℕ → Result (List RowValue) NotKnown → Type 0
IsReadAs text (Ok rows) = AreLinesOf (row_lines text) rows
IsReadAs text (Err (NoRow line)) = HasNoRow text line.number line.text.now
IsReadAs text (Err (Twice line)) = HasKeyTwice text line.number line.text.now
IsReadAs text (Err Memory) = Unit {0}
