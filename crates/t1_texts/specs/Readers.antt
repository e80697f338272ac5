-- The words that read charstrings from a font's file: RD, or -|. A font defines them itself (Type 1 Font Format 1.1, chapter 2), and the
-- nearest definition before one counts.
use Rattle.std.specs.Prelude.{ℕ, Bool, true, false, List, [], ◌∷◌, ◌&&◌, if◌then◌else◌, not}
use Rattle.std.specs.List.{list_any}
use Rattle.t1_font.specs.declared.row.Role.{Role}
use Rattle.t1_font.specs.declared.row.Role.TheVariants.{Reader}
use Rattle.t1_font.specs.Rows.{RowToken}
use Rattle.t1_texts.specs.Given.{names}
use Rattle.t1_words.specs.Readers.{reads_charstrings}

-- The token behind a name reads charstrings.
abbrev pub reads : RowToken → Bool
reads t = reads_charstrings t.kind t.text

abbrev pub first_reads : List RowToken → Bool
first_reads [] = false
first_reads (t ∷ ts) = reads t

-- The nearest name of this spelling, after which none stands, has a procedure behind it that reads charstrings.
abbrev pub is_reader : List ℕ → List RowToken → Bool
is_reader word [] = false
is_reader word (t ∷ ts) = if list_any (names word) ts then is_reader word ts else names word t && first_reads ts

abbrev pub comes_before_charstring : Role → Bool
comes_before_charstring Reader = true
comes_before_charstring _ = false

-- A word before a charstring that isn't defined so.
abbrev pub is_unread : List RowToken → RowToken → Bool
is_unread before t = comes_before_charstring t.role && not (is_reader t.text before)
