-- What a call hands over of an entry's numbers, or why there are none.
use Rattle.std.specs.Prelude.{◌≡◌, ◌++◌, ℕ, ℤ, List, Result, codes, ⊤}
use Rattle.std.specs.Fmt.{decimal}
use Rattle.std.specs.List.{flat_map}
use Rattle.t1_font.specs.Fonts.{FontValue}
use Rattle.t1_font.specs.Values.{Value, numbers}
use Rattle.t1_font.specs.declared.key.Key.{Key}
use Rattle.t1_reason_texts.specs.Decimals.{exact_text, value_of}
use Rattle.t1_report.specs.Refusals.{Refusal}
use Rattle.t1_rules.specs.Keys.{value_at}
use Rattle.t1_pieces.specs.Pieces.{IsHanded, IsTextIn}
use Rattle.t1_pieces.specs.declared.piece.Missing.TheVariants.{Numbers}
use Rattle.t1_pieces.specs.declared.piece.Piece.{Piece}
use Rattle.t1_pieces.specs.declared.piece.Piece.TheVariants.{Missing}

-- ---- the text

-- A number of a dictionary as an exact decimal, after a blank.
abbrev pub next_number : ℤ → List ℕ
next_number number = codes " " ++ exact_text (value_of number)

-- How many numbers there are, and the first of them: `4 -15 0 700 690`.
abbrev pub numbers_text : ℕ → List ℤ → List ℕ
numbers_text count first = decimal count ++ flat_map next_number first

-- They are handed over of a value that is a list of numbers; of another one there are none.
abbrev pub AreNumbersOf : Value → List ℕ → Piece → Type 0
AreNumbersOf (numbers count first) room piece = IsTextIn (numbers_text count first) room piece
AreNumbersOf _ room piece = piece ≡ Missing Numbers

-- Of the entry of a key, by what the font is read as.
abbrev pub IsNumbersPiece : Key → Result FontValue Refusal → List ℕ → Piece → Type 0
IsNumbersPiece key read room piece = IsHanded (λ font room piece. AreNumbersOf (value_at font key) room piece) ⊤ read room piece
