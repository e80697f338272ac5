-- The lines of a text.
use Rattle.std.specs.Prelude.{ℕ, ◌==◌, Bool, false, not, List, [], ◌∷◌, filter, if◌then◌else◌}
use Rattle.std.specs.List.{list_all}

abbrev pub has_no_line_end : List ℕ → Bool
has_no_line_end text = list_all (λ byte. not (byte == 10)) text

-- One byte more before the first line.
abbrev pub with_byte : ℕ → List (List ℕ) → List (List ℕ)
with_byte byte [] = (byte ∷ []) ∷ []
with_byte byte (line ∷ lines) = (byte ∷ line) ∷ lines

-- Each line is ended by byte 10, the last also by the end of the text.
abbrev pub lines_of : List ℕ → List (List ℕ)
lines_of [] = []
lines_of (byte ∷ text) = if byte == 10 then [] ∷ lines_of text else with_byte byte (lines_of text)

-- A line that begins with `#` says nothing.
abbrev pub is_comment : List ℕ → Bool
is_comment [] = false
is_comment (byte ∷ line) = byte == 35

-- The lines that have to be rows.
abbrev pub spoken : List (List ℕ) → List (List ℕ)
spoken lines = filter (λ line. not (is_comment line)) lines

abbrev pub row_lines : List ℕ → List (List ℕ)
row_lines text = spoken (lines_of text)
