-- StandardEncoding: the names of codes. PostScript Language Reference Manual, appendix E; Type 1 Font
-- Format 1.1, chapter 6 (seac).
use Rattle.std.specs.Prelude.{ℕ, codes, List, [], ◌∷◌, ◌++◌, replicate, slice_index_or}

-- Codes without a name.
abbrev pub unnamed : ℕ → List (List ℕ)
unnamed count = replicate count []

-- The name of each code from 0 on; no letters where it has none.
unfoldable pub standard_encoding : List (List ℕ)
standard_encoding =
    unnamed 32 ++ (
    -- from 32 on
    (codes "space" ∷ codes "exclam" ∷ codes "quotedbl" ∷ codes "numbersign" ∷ codes "dollar" ∷
    codes "percent" ∷ codes "ampersand" ∷ codes "quoteright" ∷ codes "parenleft" ∷ codes "parenright" ∷
    codes "asterisk" ∷ codes "plus" ∷ codes "comma" ∷ codes "hyphen" ∷ codes "period" ∷ codes "slash" ∷
    codes "zero" ∷ codes "one" ∷ codes "two" ∷ codes "three" ∷ codes "four" ∷ codes "five" ∷ codes "six" ∷
    codes "seven" ∷ codes "eight" ∷ codes "nine" ∷ codes "colon" ∷ codes "semicolon" ∷ codes "less" ∷
    codes "equal" ∷ codes "greater" ∷ codes "question" ∷ codes "at" ∷ codes "A" ∷ codes "B" ∷ codes "C" ∷
    codes "D" ∷ codes "E" ∷ codes "F" ∷ codes "G" ∷ codes "H" ∷ codes "I" ∷ codes "J" ∷ codes "K" ∷
    codes "L" ∷ codes "M" ∷ codes "N" ∷ codes "O" ∷ codes "P" ∷ codes "Q" ∷ codes "R" ∷ codes "S" ∷
    codes "T" ∷ codes "U" ∷ codes "V" ∷ codes "W" ∷ codes "X" ∷ codes "Y" ∷ codes "Z" ∷
    codes "bracketleft" ∷ codes "backslash" ∷ codes "bracketright" ∷ codes "asciicircum" ∷
    codes "underscore" ∷ codes "quoteleft" ∷ codes "a" ∷ codes "b" ∷ codes "c" ∷ codes "d" ∷ codes "e" ∷
    codes "f" ∷ codes "g" ∷ codes "h" ∷ codes "i" ∷ codes "j" ∷ codes "k" ∷ codes "l" ∷ codes "m" ∷
    codes "n" ∷ codes "o" ∷ codes "p" ∷ codes "q" ∷ codes "r" ∷ codes "s" ∷ codes "t" ∷ codes "u" ∷
    codes "v" ∷ codes "w" ∷ codes "x" ∷ codes "y" ∷ codes "z" ∷ codes "braceleft" ∷ codes "bar" ∷
    codes "braceright" ∷ codes "asciitilde" ∷ []) ++ (
    unnamed 34 ++ (
    -- from 161 on
    (codes "exclamdown" ∷ codes "cent" ∷ codes "sterling" ∷ codes "fraction" ∷ codes "yen" ∷
    codes "florin" ∷ codes "section" ∷ codes "currency" ∷ codes "quotesingle" ∷ codes "quotedblleft" ∷
    codes "guillemotleft" ∷ codes "guilsinglleft" ∷ codes "guilsinglright" ∷ codes "fi" ∷ codes "fl" ∷ []) ++ (
    unnamed 1 ++ (
    -- from 177 on
    (codes "endash" ∷ codes "dagger" ∷ codes "daggerdbl" ∷ codes "periodcentered" ∷ []) ++ (
    unnamed 1 ++ (
    -- from 182 on
    (codes "paragraph" ∷ codes "bullet" ∷ codes "quotesinglbase" ∷ codes "quotedblbase" ∷
    codes "quotedblright" ∷ codes "guillemotright" ∷ codes "ellipsis" ∷ codes "perthousand" ∷ []) ++ (
    unnamed 1 ++ (
    -- from 191 on
    (codes "questiondown" ∷ []) ++ (
    unnamed 1 ++ (
    -- from 193 on
    (codes "grave" ∷ codes "acute" ∷ codes "circumflex" ∷ codes "tilde" ∷ codes "macron" ∷ codes "breve" ∷
    codes "dotaccent" ∷ codes "dieresis" ∷ []) ++ (
    unnamed 1 ++ (
    -- from 202 on
    (codes "ring" ∷ codes "cedilla" ∷ []) ++ (
    unnamed 1 ++ (
    -- from 205 on
    (codes "hungarumlaut" ∷ codes "ogonek" ∷ codes "caron" ∷ codes "emdash" ∷ []) ++ (
    unnamed 16 ++ (
    -- from 225 on
    (codes "AE" ∷ []) ++ (
    unnamed 1 ++ (
    -- from 227 on
    (codes "ordfeminine" ∷ []) ++ (
    unnamed 4 ++ (
    -- from 232 on
    (codes "Lslash" ∷ codes "Oslash" ∷ codes "OE" ∷ codes "ordmasculine" ∷ []) ++ (
    unnamed 5 ++ (
    -- from 241 on
    (codes "ae" ∷ []) ++ (
    unnamed 3 ++ (
    -- from 245 on
    (codes "dotlessi" ∷ []) ++ (
    unnamed 2 ++ (
    -- from 248 on
    (codes "lslash" ∷ codes "oslash" ∷ codes "oe" ∷ codes "germandbls" ∷ []) ++ (
    unnamed 4))))))))))))))))))))))))))))

unfoldable pub standard_name : ℕ → List ℕ
standard_name code = slice_index_or standard_encoding code []
