-- What is stated once under each of different keys, and what is stated twice.
use Rattle.std.specs.Prelude.{◌≡◌, ℕ, List, Ok, flat_map, nat_eq, nat_lt, count_by}
use Rattle.std.specs.List.{IsDistinct, list_any}
use Rattle.t1_font.specs.Keys.{same_name}
use Rattle.t1_font.specs.FontFiles.{font_in}
use Rattle.t1_font.specs.Fonts.{FontValue, Stated, Marks, code_of, subr_of, glyph_of, is_encoding, after_last, keys_of, value_of}

-- Where the Subrs' numbers are all different, the font has just the Subrs that are stated, in their
-- order; so it is with the glyphs' names, and with the codes since the last Encoding.
abbrev pub DifferentStay : Type 0
DifferentStay = (marks : Marks) (es : List Stated) →
    (IsDistinct nat_eq (keys_of (flat_map subr_of es)) → (value_of marks es).subrs ≡ flat_map subr_of es)
    × (IsDistinct same_name (keys_of (flat_map glyph_of es)) →
    (value_of marks es).glyphs ≡ flat_map glyph_of es)
    × (IsDistinct nat_eq (keys_of (flat_map code_of (after_last is_encoding es))) →
    (value_of marks es).codes ≡ flat_map code_of (after_last is_encoding es))

-- The Subrs and the glyphs that the font has as stated twice are those that were stated twice or more.
abbrev pub TwiceIsAgain : Type 0
TwiceIsAgain = (marks : Marks) (es : List Stated) →
    ((n : ℕ) → list_any (nat_eq n) (value_of marks es).subrs_twice
    ≡ nat_lt 1 (count_by (nat_eq n) (keys_of (flat_map subr_of es))))
    × ((name : List ℕ) →
    list_any (same_name name) (value_of marks es).glyphs_twice
    ≡ nat_lt 1 (count_by (same_name name) (keys_of (flat_map glyph_of es))))

-- No Subr's number, no glyph's name and no code occurs twice.
pub record HasDistinctKeys (v : FontValue) : Type 0 where
  pub subrs : IsDistinct nat_eq (keys_of v.subrs)
  pub glyphs : IsDistinct same_name (keys_of v.glyphs)
  pub codes : IsDistinct nat_eq (keys_of v.codes)

-- So it is in the value of whatever is stated,
abbrev pub NoneStandsTwice : Type 0
NoneStandsTwice = (marks : Marks) (es : List Stated) → HasDistinctKeys (value_of marks es)

-- and in the font that any bytes are read as.
abbrev pub FontsHaveDistinctKeys : Type 0
FontsHaveDistinctKeys = (bytes : List ℕ) (font : FontValue) → font_in bytes ≡ Ok font → HasDistinctKeys font
