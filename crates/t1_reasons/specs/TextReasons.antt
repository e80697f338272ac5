-- What the rules on a font's texts compare and tell: bytes, words, entries that are given twice. Type 1 Font Format 1.1, chapter 2.
use Rattle.std.specs.Prelude.{ℕ, ◌+◌, ◌==◌, ◌&&◌, ◌||◌, not, Bool, false, if◌then◌else◌, ℤ, ◌*ℤ◌, Option, Some, None, List, [], ◌∷◌, codes}
use Rattle.std.specs.Ordering.{int_eq}
use Rattle.t1_font.specs.declared.key.Key.{Key}
use Rattle.t1_font.specs.Fonts.{FontValue}
use Rattle.t1_font.specs.Rows.{RowToken, clear_row, private_row}
use Rattle.t1_reasons.specs.declared.reason.FontText.TheVariants.{Clear, Private}
use Rattle.t1_reasons.specs.declared.reason.Reason.{Reason}
use Rattle.t1_reasons.specs.declared.reason.Reason.TheVariants.{Determinant, HighByte, Nothing, PrivateUnbegun, ReaderWord, TextWord}
use Rattle.t1_rules.specs.FontRules.Values.{first_in, is_so_many}
use Rattle.t1_rules.specs.Keys.{value_at}
use Rattle.t1_texts.specs.Given.{names}
use Rattle.t1_texts.specs.PrivateDictionary.{begins_list}
use Rattle.t1_texts.specs.RowFaults.{Placed, faults_in}
use Rattle.t1_words.specs.Headers.{is_high}

-- ---- bytes

-- The line behind a byte: lines end with a carriage return, a line feed, or both.
abbrev pub line_after : ℕ → Bool → ℕ → ℕ
line_after line is_behind byte = if byte == 13 || (byte == 10 && not is_behind) then line + 1 else line

-- The bytes of a text from a line on, each with its line; the first of them is right behind a carriage return or not.
abbrev pub bytes_from : ℕ → Bool → List ℕ → List Reason
bytes_from line is_behind [] = []
bytes_from line is_behind (byte ∷ bytes) = HighByte line byte ∷ bytes_from (line_after line is_behind byte) (byte == 13) bytes

abbrev pub bytes_at : FontValue → ℕ → List Reason
bytes_at font index = if index == 0 then bytes_from 1 false font.clear_text else []

abbrev pub is_high_byte : Reason → Bool
is_high_byte (HighByte line byte) = is_high byte
is_high_byte _ = false

-- ---- FontMatrix

-- The first four of six numbers.
abbrev pub determinants_of : List ℤ → List Reason
determinants_of (v0 ∷ (v1 ∷ (v2 ∷ (v3 ∷ more)))) = Determinant v0 v1 v2 v3 ∷ []
determinants_of _ = []

abbrev pub determinants_at : FontValue → Key → ℕ → List Reason
determinants_at font k index = if index == 0 && is_so_many 6 (value_at font k) then determinants_of (first_in 6 (value_at font k)) else []

abbrev pub is_zero_determinant : Reason → Bool
is_zero_determinant (Determinant v0 v1 v2 v3) = int_eq (v0 *ℤ v3) (v1 *ℤ v2)
is_zero_determinant _ = false

-- ---- words

-- The word before a charstring, if there is such a one.
abbrev pub reader_word : Option Placed → Reason
reader_word None = Nothing
reader_word (Some found) = ReaderWord found.place

-- The first of the clear text, or else that of the private one.
abbrev pub text_word : Option Placed → Option Placed → Reason
text_word (Some found) other = TextWord Clear found.place
text_word None (Some found) = TextWord Private found.place
text_word None None = Nothing

abbrev pub unread_word : FontValue → Reason
unread_word font = reader_word (faults_in (private_row font)).unread

abbrev pub unpaired_word : FontValue → Reason
unpaired_word font = text_word (faults_in (clear_row font)).unpaired (faults_in (private_row font)).unpaired

abbrev pub unknown_word : FontValue → Reason
unknown_word font = text_word (faults_in (clear_row font)).unknown (faults_in (private_row font)).unknown

-- ---- the Private dictionary

-- The name Private stands ahead of the lists.
abbrev pub names_private : List RowToken → Bool
names_private [] = false
names_private (t ∷ ts) = if begins_list t.role then false else names (codes "Private") t || names_private ts

abbrev pub private_unbegun : FontValue → Reason
private_unbegun font = PrivateUnbegun (names_private (private_row font))
