-- What reasons say of a font's texts: the words that they name are the first of their kind, and the lines are those of the text.
use Rattle.std.specs.Prelude.{◌≡◌, ⊤, ℕ, ◌+◌, ◌<◌, ◌==◌, ◌&&◌, ◌||◌, not, Bool, true, false, if◌then◌else◌, Some, List, [], ◌∷◌, slice_get, take}
use Rattle.t1_char.specs.declared.edition.Edition.{Edition}
use Rattle.t1_font.specs.Fonts.{FontValue}
use Rattle.t1_font.specs.Rows.{RowToken, clear_row, private_row}
use Rattle.t1_reasons.specs.declared.reason.FontText.TheVariants.{Clear, Private}
use Rattle.t1_reasons.specs.declared.reason.Reason.{Reason}
use Rattle.t1_reasons.specs.declared.reason.Reason.TheVariants.{HighByte, ReaderWord, TextWord}
use Rattle.t1_reasons.specs.FontReasons.{font_reason}
use Rattle.t1_reasons.specs.TextReasons.{bytes_from}
use Rattle.t1_rules.specs.declared.rule.Rule.{Rule}
use Rattle.t1_rules.specs.declared.rule.Rule.TheVariants.{F24, F25, F26}
use Rattle.t1_texts.specs.Given.{is_unknown}
use Rattle.t1_texts.specs.Readers.{is_unread}
use Rattle.t1_texts.specs.RowFaults.{has_no_partner}

-- A test of a token that knows the tokens before it.
abbrev pub RowTest : Type 0
RowTest = List RowToken → RowToken → Bool

-- No token of a row is such.
abbrev pub NoTokenIsSuch : RowTest → List RowToken → Type 0
NoTokenIsSuch is_such row = (place : ℕ) (t : RowToken) → slice_get row place ≡ Some t → is_such (take place row) t ≡ false

-- The token at this place of a row is such, and none before it.
pub record IsFirstToken (is_such : RowTest) (row : List RowToken) (place : ℕ) : Type 0 where
  pub token : RowToken
  pub there : slice_get row place ≡ Some token
  pub such : is_such (take place row) token ≡ true
  pub first : (earlier : ℕ) (t : RowToken) → earlier < place → slice_get row earlier ≡ Some t → is_such (take earlier row) t ≡ false

-- It is named by a reason: the first of the clear text, or where that has none, of the private one.
abbrev pub IsNamedInTexts : RowTest → FontValue → Reason → Type 0
IsNamedInTexts is_such font (TextWord Clear place) = IsFirstToken is_such (clear_row font) place
IsNamedInTexts is_such font (TextWord Private place) = NoTokenIsSuch is_such (clear_row font) × IsFirstToken is_such (private_row font) place
IsNamedInTexts is_such font _ = ⊥

abbrev pub IsNamedReader : FontValue → Reason → Type 0
IsNamedReader font (ReaderWord place) = IsFirstToken is_unread (private_row font) place
IsNamedReader font _ = ⊥

abbrev pub IsNamedWord : FontValue → Rule → Reason → Type 0
IsNamedWord font F24 reason = IsNamedReader font reason
IsNamedWord font F25 reason = IsNamedInTexts has_no_partner font reason
IsNamedWord font F26 reason = IsNamedInTexts is_unknown font reason
IsNamedWord font _ reason = ⊤

abbrev pub NamedWordsAreTheFirst : Type 0
NamedWordsAreTheFirst =
    (edition : Edition) (font : FontValue) (rule : Rule) (key index : ℕ) (reason : Reason) → font_reason edition font rule key index ≡ Some reason →
    IsNamedWord font rule reason

-- How many lines end in a text: each carriage return ends one, and each line feed that isn't right behind one.
abbrev pub ends_in : Bool → List ℕ → ℕ
ends_in is_behind [] = 0
ends_in is_behind (byte ∷ bytes) = (if byte == 13 || (byte == 10 && not is_behind) then 1 else 0) + ends_in (byte == 13) bytes

-- The line of a byte is one more than the lines that end before it.
abbrev pub LinesAreCounted : Type 0
LinesAreCounted =
    (text : List ℕ) (place byte : ℕ) → slice_get text place ≡ Some byte →
    slice_get (bytes_from 1 false text) place ≡ Some (HighByte (1 + ends_in false (take place text)) byte)
