-- Each row that was read of a text is in one line.
use Rattle.std.proofs.Common.{◌≡◌, ◌==◌, ◌&&◌, ℕ, true, false, not, List, [], ◌∷◌, ◌++◌, inl, inr, refl, sym, ap₂, subst, ◌∙◌}
use Rattle.std.proofs.lemmas.Bool.{and_parts, cases_Bool}
use Rattle.std.proofs.lemmas.List.{append_cancel_right}
use Rattle.std.specs.List.{AllByRecursion, AllZip}
use Rattle.t1_many.specs.KnownFaults.{RowValue}
use Rattle.t1_known.proofs.FoundRows.{all-filter}
use Rattle.t1_known.proofs.ReadBack.{line_ended, line_text}
use Rattle.t1_known.specs.Keys.{key_of}
use Rattle.t1_known.specs.Laws.{IsInOneLine}
use Rattle.t1_known.specs.Lines.{has_no_line_end, is_comment, lines_of, row_lines, with_byte}
use Rattle.t1_known.specs.Reads.{IsLineOf}

abbrev IsLine : List ℕ → Type 0
IsLine line = has_no_line_end line ≡ true

-- ---- lines

with_byte_more : (c : ℕ) (lines : List (List ℕ)) → (c == 10) ≡ false → AllByRecursion IsLine lines → AllByRecursion IsLine (with_byte c lines)
with_byte_more c [] other all = (rw other refl, tt)
with_byte_more c (line ∷ lines) other all = (rw other all.0, all.1)

lines_are_lines : (text : List ℕ) → AllByRecursion IsLine (lines_of text)
lines_are_lines [] = tt
lines_are_lines (c ∷ text) = elim (cases_Bool (c == 10)) [
  | inl at ↦ rw at (refl, lines_are_lines text)
  | inr other ↦ rw other (with_byte_more c (lines_of text) other (lines_are_lines text))
]

row_lines_are_lines : (text : List ℕ) → AllByRecursion IsLine (row_lines text)
row_lines_are_lines text = all-filter IsLine (λ line. not (is_comment line)) (lines_of text) (lines_are_lines text)

-- ---- rows

parts_of : (a b : List ℕ) → IsLine (a ++ b) → IsLine a × IsLine b
parts_of [] b none = (refl, none)
parts_of (c ∷ a) b none =
    let parts = and_parts (not (c == 10)) (has_no_line_end (a ++ b)) none in
    let more = parts_of a b parts.1 in
    (ap₂ (λ x y. x && y) parts.0 more.0, more.1)

row_in_line : (line : List ℕ) (row : RowValue) → IsLine line → IsLineOf line row → IsInOneLine row
row_in_line line row none is =
    let same : line ≡ line_text row = append_cancel_right line (line_text row) (10 ∷ []) (sym is.1 ∙ line_ended row) in
    let key = (parts_of row.count (32 ∷ key_of row) (subst IsLine same none)).1 in
    let parts = parts_of row.kind (32 ∷ row.font) key in
    record { is = is.0; kind = parts.0; font = parts.1 }

rows_in_line : (lines : List (List ℕ)) (rows : List RowValue) → AllByRecursion IsLine lines → AllZip IsLineOf lines rows
    → AllByRecursion IsInOneLine rows
rows_in_line [] [] all each = tt
rows_in_line [] (row ∷ rows) all each = absurd each
rows_in_line (line ∷ lines) [] all each = absurd each
rows_in_line (line ∷ lines) (row ∷ rows) all each = (row_in_line line row all.0 each.0, rows_in_line lines rows all.1 each.1)

pub read_in_line : (text : List ℕ) (rows : List RowValue) → AllZip IsLineOf (row_lines text) rows → AllByRecursion IsInOneLine rows
read_in_line text rows each = rows_in_line (row_lines text) rows (row_lines_are_lines text) each
