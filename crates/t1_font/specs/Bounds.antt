-- How many codes an Encoding has (Type 1 Font Format 1.1, chapter 2), and this project's own limits: how many Subrs and
-- glyphs a font states at most; how long a charstring is; how many numbers of a list are kept; the greatest lenIV.
use Rattle.std.specs.Prelude.{ℕ}

abbrev pub code_count : ℕ
code_count = 256

abbrev pub most_subrs : ℕ
most_subrs = 65535

abbrev pub most_glyphs : ℕ
most_glyphs = 65535

abbrev pub longest_charstring : ℕ
longest_charstring = 65535

abbrev pub kept_numbers : ℕ
kept_numbers = 16

abbrev pub greatest_len_iv : ℕ
greatest_len_iv = 64
