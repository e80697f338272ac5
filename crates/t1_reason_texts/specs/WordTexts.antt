-- What the texts of reasons are made of that a font's own texts have: its words, its bytes, its first line.
use Rattle.std.specs.Prelude.{ℕ, ◌-◌, ◌==◌, ◌||◌, not, Bool, false, if◌then◌else◌, Option, Some, None, List, [], ◌∷◌, ◌++◌, codes, slice_get, take}
use Rattle.std.specs.Fmt.{decimal}
use Rattle.std.specs.List.{prefix_len}
use Rattle.t1_font.specs.Fonts.{FontValue}
use Rattle.t1_font.specs.Rows.{RowToken, clear_row, private_row}
use Rattle.t1_reasons.specs.declared.reason.FontText.{FontText}
use Rattle.t1_reasons.specs.declared.reason.FontText.TheVariants.{Clear, Private}
use Rattle.t1_reasons.specs.declared.reason.Reason.{Reason}
use Rattle.t1_reasons.specs.declared.reason.Reason.TheVariants.{Determinant, FirstLine, HighByte, PrivateUnbegun, ReaderWord, TextWord}
use Rattle.t1_reason_texts.specs.FontTexts.{value_text}
use Rattle.t1_reason_texts.specs.Names.{ellipsis, shown_byte}

-- ---- words

abbrev pub row_of_text : FontValue → FontText → List RowToken
row_of_text font Clear = clear_row font
row_of_text font Private = private_row font

abbrev pub text_of : Option RowToken → List ℕ
text_of None = []
text_of (Some t) = t.text

-- The token at a place of a text's row.
abbrev pub word_at : FontValue → FontText → ℕ → List ℕ
word_at font text place = text_of (slice_get (row_of_text font text) place)

-- ---- the first line

abbrev pub ends_line : ℕ → Bool
ends_line byte = byte == 10 || byte == 13

abbrev pub first_line_of : List ℕ → List ℕ
first_line_of text = take (prefix_len (λ byte. not (ends_line byte)) text) text

abbrev pub first_line : FontValue → List ℕ
first_line font = first_line_of font.clear_text

-- ---- bytes as they are shown

-- The most bytes of a word.
abbrev pub most_bytes : ℕ
most_bytes = 40

abbrev pub first_bytes : List ℕ → List ℕ
first_bytes word = take most_bytes word

-- A blank is shown as it is: there are words behind it, or before it.
abbrev pub shown_letter : ℕ → List ℕ
shown_letter byte = if byte == 32 then 32 ∷ [] else shown_byte byte

-- So many bytes, then `…` where some are left.
unfoldable pub shown_bytes : ℕ → List ℕ → List ℕ
shown_bytes left [] = []
shown_bytes left (byte ∷ bytes) = if left == 0 then ellipsis else shown_letter byte ++ shown_bytes (left - 1) bytes

abbrev pub shown_word : List ℕ → List ℕ
shown_word word = shown_bytes most_bytes word

-- ---- texts

-- What a charstring is of, by the token ahead of its length: a glyph, by its name, or a Subr, by its number.
abbrev pub is_slashed : List ℕ → Bool
is_slashed [] = false
is_slashed (byte ∷ bytes) = byte == 47

abbrev pub entry_words : List ℕ → List ℕ
entry_words word = if is_slashed word then shown_word word else codes "Subr " ++ shown_word word

abbrev pub text_words : FontText → List ℕ
text_words Clear = codes "in the clear text"
text_words Private = codes "in Private"

-- Of a reason that speaks of the font's texts, or of FontMatrix.
unfoldable pub word_reason_text : FontValue → Reason → List ℕ
word_reason_text font (HighByte line byte) = codes "byte " ++ (decimal byte ++ (codes " in line " ++ decimal line))
word_reason_text font (ReaderWord place) =
    shown_word (word_at font Private place) ++ (codes " before the charstring of " ++ entry_words (word_at font Private (place - 2)))
word_reason_text font (TextWord text place) = shown_word (word_at font text place) ++ (codes " " ++ text_words text)
word_reason_text font (Determinant v0 v1 v2 v3) =
    codes "the determinant " ++ (value_text v0 ++ (codes " times " ++ (value_text v3
    ++ (codes " less " ++ (value_text v1 ++ (codes " times " ++ (value_text v2 ++ codes " is 0")))))))
word_reason_text font (PrivateUnbegun named) =
    if named then codes "/Private is not followed by a number, dict, dup and begin"
    else codes "there is no /Private before the Subrs and CharStrings"
word_reason_text font FirstLine = codes "the file begins with " ++ shown_word (first_line font)
word_reason_text font _ = []
