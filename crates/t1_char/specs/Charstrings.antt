-- What charstrings need of a font: its lenIV, its Subrs, its glyphs' charstrings.
use Rattle.std.specs.Prelude.{ℕ, ℤ, Option, Some, None, List, [], nat_eq, slice_get, slice_index_or}
use Rattle.std.specs.Map.{lookup}
use Rattle.t1_font.specs.declared.key.Key.TheVariants.{LenIv}
use Rattle.t1_font.specs.Keys.{index_of}
use Rattle.t1_font.specs.LenIv.{len_iv_of}
use Rattle.t1_font.specs.Values.{absent}
use Rattle.t1_font.specs.Fonts.{FontValue}
use Rattle.t1_char.specs.declared.token.CharToken.{CharToken}
use Rattle.t1_char.specs.Tokens.{charstring_tokens}

abbrev pub len_iv_in : FontValue → ℤ
len_iv_in font = len_iv_of (slice_index_or font.plain (index_of LenIv) absent)

-- The charstring of a Subr.
abbrev pub subr_in : FontValue → ℕ → Option (List ℕ)
subr_in font number = lookup (nat_eq number) font.subrs

-- The charstring of a glyph, by its place; empty past the end.
abbrev pub code_or_empty : Option (List ℕ × List ℕ) → List ℕ
code_or_empty None = []
code_or_empty (Some glyph) = glyph.1

abbrev pub code_at : FontValue → ℕ → List ℕ
code_at font glyph = code_or_empty (slice_get font.glyphs glyph)

-- The tokens of one of the font's charstrings.
abbrev pub tokens_in : FontValue → List ℕ → List CharToken
tokens_in font code = charstring_tokens (len_iv_in font) code
