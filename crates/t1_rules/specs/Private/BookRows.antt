-- The book as a list of rows, as the code has it.
use Rattle.std.specs.Prelude.{ℕ, if◌then◌else◌, List, [], ◌∷◌, Option, Some, None, map}
use Rattle.std.specs.Borrow.{Bor}
use Rattle.t1_font.specs.Keys.{same_name}
use Rattle.t1_rules.specs.declared.level.Level.{Level}
use Rattle.t1_rules.specs.declared.rule.Rule.{Rule}
use Rattle.t1_rules.specs.Book.{code_of, level_of, rules, text_of}

-- What a row of the code says: a rule, its level, its code and its text.
abbrev pub row_view : Rule × Level × Bor (List ℕ) × Bor (List ℕ) → Rule × Level × List ℕ × List ℕ
row_view row = (row.0, row.1, row.2.now, row.3.now)

-- The rows that the book has.
abbrev pub rows : List (Rule × Level × List ℕ × List ℕ)
rows = map (λ r. (r, level_of r, code_of r, text_of r)) rules

-- The rule of the first row that has a code.
unfoldable pub row_coded : List ℕ → List (Rule × Level × List ℕ × List ℕ) → Option Rule
row_coded code [] = None
row_coded code (row ∷ rest) = if same_name row.2 code then Some row.0 else row_coded code rest
