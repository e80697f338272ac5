-- Words that a font defines: a name is given at a token if it stands earlier in the same row, as any token. Type 1 Font Format 1.1,
-- chapter 2: a font's program is run by an interpreter, which knows no other words.
use Rattle.std.specs.Prelude.{ℕ, Bool, true, false, Option, Some, None, List, [], ◌∷◌, ◌&&◌, not}
use Rattle.std.specs.List.{list_any}
use Rattle.std.specs.Str.{bytes_eq}
use Rattle.t1_font.specs.Rows.{RowToken, name_in}
use Rattle.t1_words.specs.Words.{wants_definition}

-- A token is the name of this spelling.
abbrev pub is_this : List ℕ → Option (List ℕ) → Bool
is_this word None = false
is_this word (Some name) = bytes_eq name word

abbrev pub names : List ℕ → RowToken → Bool
names word t = is_this word (name_in t)

abbrev pub is_given : List ℕ → List RowToken → Bool
is_given word before = list_any (names word) before

-- A word that is neither known nor given at it.
abbrev pub is_unknown : List RowToken → RowToken → Bool
is_unknown before t = wants_definition t.kind t.text && not (is_given t.text before)
