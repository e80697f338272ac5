-- A charstring's entry: a name, or a dup and a number; the count of its bytes; a word; one byte; the bytes.
use Rattle.std.specs.Prelude.{◌≡◌, ◌+◌, ℕ, true, Option, Some, None, List, [], ◌∷◌, ◌++◌, length}
use Rattle.std.specs.List.{AllByRecursion}
use Rattle.t1_scan.specs.declared.token.Token.{Token}
use Rattle.t1_scan.specs.Tokens.{Found}
use Rattle.t1_font.specs.declared.mode.PrivateMode.{PrivateMode}
use Rattle.t1_font.specs.declared.mode.TextMode.TheVariants.{Private}
use Rattle.t1_font.specs.declared.row.Part.{Part}
use Rattle.t1_font.specs.declared.row.Row.{Row}
use Rattle.t1_font.specs.Rows.{BeginsWith, row_of}
use Rattle.t1_font.specs.Tokens.{is_number_kind, token_ahead}

-- A word is the one before the bytes of a charstring, whose count begins a text.
pub record IsWordBefore (s : List ℕ) (w : Token) (bytes left : List ℕ) : Type 0 where
  pub count : Found
  pub word : Found
  pub first : token_ahead s ≡ Some count
  pub number : is_number_kind count.kind ≡ true
  pub next : token_ahead count.rest ≡ Some word
  pub kind : word.kind ≡ w.kind
  pub text : word.text ≡ w.text.now
  pub behind : length word.rest ≡ length left + length bytes + 1

-- A part is the first of the row of a text of which this token is the first, and this is left after it.
abbrev pub IsFirstPart : PrivateMode → Found → Part → List ℕ → Type 0
IsFirstPart mode t part left = (s : List ℕ) → token_ahead s ≡ Some t → BeginsWith part (row_of (Private mode) s) (row_of (Private mode) left)
