-- Laws of the value of an array or a procedure: the tokens between its own brackets decide it
-- (Type 1 Font Format, chapters 2 and 5).
use Rattle.std.specs.Prelude.{◌≡◌, ◌↔◌, ℕ, ℤ, pos, Bool, true, false, List, [], ◌∷◌, length, map, take, not, codes}
use Rattle.std.specs.List.{list_any}
use Rattle.t1_scan.specs.declared.token.Kind.{Kind}
use Rattle.t1_scan.specs.declared.token.Kind.TheVariants.{Number}
use Rattle.t1_scan.specs.Bytes.{is_blank}
use Rattle.t1_scan.specs.Spelling.{Plain, Body, braced, bracketed, body_text}
use Rattle.t1_scan.specs.Texts.{Lexeme, lexeme_of, are_blanks, IsReadAs, IsReadable, AreReadable, written}
use Rattle.t1_font.specs.Bounds.{kept_numbers}
use Rattle.t1_font.specs.Tokens.{is_number_kind}
use Rattle.t1_font.specs.Laws.Example.{flat}
use Rattle.t1_font.specs.Values.{Value, numbers, other, list_value, value_of_token}
use Rattle.t1_font.specs.Laws.Written.{token, IsWritten}

-- What these tokens are, each for itself.
abbrev pub kinds_of : List Lexeme → List Kind
kinds_of ts = map (λ t. t.kind) ts

-- A text is read as tokens that are these numbers, and as no other token.
pub record IsReadAsNumbers (s : List ℕ) (values : List ℤ) : Type 0 where
  pub tokens : List Lexeme
  pub read : IsReadAs s tokens
  pub kinds : kinds_of tokens ≡ map Number values

-- One of these tokens is no number.
abbrev pub has_other_kind : List Kind → Bool
has_other_kind kinds = list_any (λ kind. not (is_number_kind kind)) kinds

-- An array and a procedure with this body have this value.
abbrev pub BothAre : Body → Value → Type 0
BothAre body value =
    (value_of_token (lexeme_of (bracketed body)) ≡ value)
    × (value_of_token (lexeme_of (braced body)) ≡ value)

-- Numbers alone are counted, and the first 16 of their values are kept.
abbrev pub CountsNumbers : Type 0
CountsNumbers = (s : List ℕ) (values : List ℤ) → IsReadAsNumbers s values →
    list_value s ≡ numbers (length values) (take kept_numbers values)

-- What has a count and values is numbers alone, so many and these.
abbrev pub NumbersAlone : Type 0
NumbersAlone = (s : List ℕ) (count : ℕ) (first : List ℤ) → list_value s ≡ numbers count first →
    (values : List ℤ) × IsReadAsNumbers s values × (count ≡ length values) × (first ≡ take kept_numbers values)

-- Another kind is exactly what isn't numbers alone: another token is there, or one isn't closed.
abbrev pub OtherElse : Type 0
OtherElse = (s : List ℕ) → (list_value s ≡ other) ↔ ((values : List ℤ) → IsReadAsNumbers s values → ⊥)

-- A token that is no number, wherever it is among others, makes it another kind.
abbrev pub OtherToken : Type 0
OtherToken = (s : List ℕ) (ts : List Lexeme) → IsReadAs s ts → has_other_kind (kinds_of ts) ≡ true →
    list_value s ≡ other

-- What is between the brackets decides.
abbrev pub InsideDecides : Type 0
InsideDecides = (body : Body) → BothAre body (list_value (body_text body))

-- A body is written with these tokens. Blanks and comments may be before, between and after them, and
-- must be only where two tokens would run together.
pub record IsWrittenWith (body : Body) (ts : List Plain) : Type 0 where
  pub rest : List ℕ
  pub tokens : IsWritten (body_text body) (map token ts) rest
  pub ends : are_blanks false rest ≡ true

-- Numbers so written are counted, and the first 16 of their values are kept.
abbrev pub WrittenNumbers : Type 0
WrittenNumbers = (body : Body) (ts : List Plain) (values : List ℤ) → IsWrittenWith body ts →
    kinds_of (map lexeme_of ts) ≡ map Number values →
    BothAre body (numbers (length values) (take kept_numbers values))

-- Tokens so written, one of them no number, are another kind.
abbrev pub WrittenOthers : Type 0
WrittenOthers = (body : Body) (ts : List Plain) → IsWrittenWith body ts →
    has_other_kind (kinds_of (map lexeme_of ts)) ≡ true → BothAre body other

-- Between brackets, and between braces, a text makes one token that can be read, of this value.
pub record IsList (s : List ℕ) (value : Value) : Type 0 where
  pub inside : body_text (flat s) ≡ s
  pub array : IsReadable (bracketed (flat s))
  pub procedure : IsReadable (braced (flat s))
  pub both : BothAre (flat s) value

-- Numbers with one blank between are such a text.
abbrev pub NumbersAreLists : Type 0
NumbersAreLists = (blank : ℕ) (ts : List Plain) (values : List ℤ) → is_blank blank ≡ true →
    AreReadable ts → kinds_of (map lexeme_of ts) ≡ map Number values →
    IsList (written blank ts) (numbers (length values) (take kept_numbers values))

-- The numbers of a FontMatrix are such a text.
abbrev pub MatrixIsList : Type 0
MatrixIsList =
    IsList (codes "0.001 0 0 0.001 0 0")
    (numbers 6 (pos 1000000 ∷ pos 0 ∷ pos 0 ∷ pos 1000000 ∷ pos 0 ∷ pos 0 ∷ []))
