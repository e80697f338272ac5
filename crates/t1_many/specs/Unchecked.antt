-- Fonts that aren't checked, as they are reported on standard error.
use Rattle.std.specs.Prelude.{◌++◌, ◌==◌, ℕ, Bool, List, [], ◌∷◌, codes, if◌then◌else◌}
use Rattle.std.specs.List.{concat, flat_map, list_any}

-- A name with a line end can't be in a line.
abbrev pub has_line_end : List ℕ → Bool
has_line_end name = list_any (λ byte. byte == 10) name

-- A name, with `\n` in the place of each line end.
abbrev pub shown_byte : ℕ → List ℕ
shown_byte byte = if byte == 10 then codes "\\n" else byte ∷ []

abbrev pub in_one_line : List ℕ → List ℕ
in_one_line name = flat_map shown_byte name

-- `NAME: t1check: REASON`.
abbrev pub unchecked_line : List ℕ → List ℕ → List ℕ
unchecked_line name reason = in_one_line name ++ concat (codes ": t1check: " ∷ reason ∷ codes "\n" ∷ [])
