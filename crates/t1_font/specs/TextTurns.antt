-- How a text is read: by turns, each of which takes a token or more.
use Rattle.std.specs.Prelude.{ℕ, zero, suc, Option, Some, None, Result, Ok, Err, List, [], ◌∷◌, ◌++◌, length}
use Rattle.t1_font.specs.declared.unread.Unread.{Unread}
use Rattle.t1_font.specs.Readings.{◌>>=◌}
use Rattle.t1_font.specs.Fonts.{Stated, Marks, FontValue, value_of}

-- One turn, M the places where reading can be: the text is over, and this is left; or reading goes on at
-- what is left, after a statement or none.
pub data TextTurn (M : Type 0) : Type 0 where
  over : List ℕ → TextTurn M
  goes : Option Stated → M → List ℕ → TextTurn M

-- Reading goes on after a token that states nothing.
abbrev pub pass : {M : Type 0} → M → List ℕ → TextTurn M
pass mode rest = goes None mode rest

-- What is stated in a text, and what follows it.
pub record TextRead : Type 0 where
  pub stated : List Stated
  pub rest : List ℕ

-- A statement more, or none.
abbrev pub with_one : List Stated → Option Stated → List Stated
with_one before None = before
with_one before (Some e) = before ++ e ∷ []

-- How a text's turns go, which know the value of what was stated before.
abbrev pub Reader : Type 0 → Type 0
Reader M = FontValue → M → List ℕ → Result (TextTurn M) Unread

-- The statements of a text, of which those before are known, by at most n turns. Where a turn goes on, what
-- it states comes after those before, and the rest is read with one turn less.
unfoldable pub stated_within : {M : Type 0} → Reader M → Unread → Marks → ℕ → List Stated → M → List ℕ →
    Result TextRead Unread
stated_within turn ended marks zero before mode s = Err ended
stated_within turn ended marks (suc n) before mode s = turn (value_of marks before) mode s >>= (λ t. elim t [
  | over rest ↦ Ok (record { stated = before; rest = rest })
  | goes e next left ↦ stated_within turn ended marks n (with_one before e) next left
])

-- A turn takes a byte or more, or reaches the end.
abbrev pub stated_in : {M : Type 0} → Reader M → Unread → Marks → List Stated → M → List ℕ →
    Result TextRead Unread
stated_in turn ended marks before mode s = stated_within turn ended marks (suc (length s)) before mode s
