-- What a font's text is written with, piece by piece: tokens, and the bytes of charstrings.
use Rattle.std.specs.Prelude.{◌≡◌, ◌≤◌, ◌*◌, ℕ, pos, Bool, List, [], ◌∷◌, ◌++◌, length}
use Rattle.t1_scan.specs.declared.token.Kind.TheVariants.{Number, Word}
use Rattle.t1_scan.specs.Spelling.{Plain, spelled, meant}
use Rattle.t1_scan.specs.Texts.{BeginsWith}
use Rattle.t1_font.specs.Tokens.{spells}
use Rattle.t1_font.specs.Bounds.{longest_charstring}
use Rattle.t1_scan.specs.Numbers.{billion}

-- A piece of a text: a token, after any blanks and comments; or one byte and then these bytes, whatever they are.
pub data Piece : Type 0 where
  token : Plain → Piece
  raw : ℕ → List ℕ → Piece

-- A text is written with these pieces, one after another, and then the rest follows. Each token is in
-- its plain form and ends where the next piece begins, by the rules of tokens: a blank must be
-- between only where two would run together.
abbrev pub IsWritten : List ℕ → List Piece → List ℕ → Type 0
IsWritten s [] rest = s ≡ rest
IsWritten s (token t ∷ pieces) rest = (left : List ℕ) × BeginsWith s t left × IsWritten left pieces rest
IsWritten s (raw first bytes ∷ pieces) rest =
    (left : List ℕ) × (s ≡ first ∷ (bytes ++ left)) × IsWritten left pieces rest

-- A token is the whole number n, however it is spelled: 16, +16., 16#10.
abbrev pub IsWhole : Plain → ℕ → Type 0
IsWhole t n = meant t ≡ Number (pos (n * billion))

-- A token is the word of these bytes.
abbrev pub is_word_of : List ℕ → Plain → Bool
is_word_of bytes t = spells bytes (meant t) (spelled t)

-- A charstring as it is written: the count of its bytes, a word, one byte, and its bytes.
pub record Charstring : Type 0 where
  pub count : Plain
  pub read_word : Plain
  pub separator : ℕ
  pub bytes : List ℕ

abbrev pub charstring_pieces : Charstring → List Piece
charstring_pieces c = token c.count ∷ token c.read_word ∷ raw c.separator c.bytes ∷ []

-- The count is right and at most 65,535, and any word reads the bytes. The byte after it is any that
-- isn't regular, since a word of regular bytes ends only there.
pub record IsCharstring (c : Charstring) : Type 0 where
  pub counted : IsWhole c.count (length c.bytes)
  pub short : length c.bytes ≤ longest_charstring
  pub reads : meant c.read_word ≡ Word
