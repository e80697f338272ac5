-- How a row goes on: token by token within a turn, and then turn by turn.
use Rattle.std.specs.Prelude.{◌≡◌, ◌<◌, ℕ, suc, Bool, true, false, if◌then◌else◌, Option, Some, None, List, [], ◌∷◌, length}
use Rattle.std.specs.Borrow.{Bor}
use Rattle.t1_scan.specs.declared.token.Token.{Token}
use Rattle.t1_font.specs.Private.Tokens.{found_of}
use Rattle.t1_font.specs.Tokens.{token_ahead}
use Rattle.t1_font.specs.declared.row.Part.{Part}
use Rattle.t1_font.specs.declared.row.Row.{Row}
use Rattle.t1_font.specs.declared.row.TokenInRow.{TokenInRow}
use Rattle.t1_font.specs.Rows.{BeginsWith, row_left, token_before, token_in_row}

-- A token, and what follows it, are the first of a text; nothing is said where there is none.
abbrev pub IsAhead : List ℕ → Option (Token × Bor (List ℕ)) → Type 0
IsAhead s None = Unit {0}
IsAhead s (Some p) = token_ahead s ≡ Some (found_of p.0 p.1.now)

-- No token of the turn is left.
abbrev pub HasTurned : Row → Type 0
HasTurned row = (row.first ≡ None) × (token_before row.stop row.text.now ≡ None)

-- A token of the turn is taken, if one is left.
abbrev pub IsTaken : Row → Row → Option TokenInRow → Type 0
IsTaken before after (Some t) = row_left before ≡ token_in_row t ∷ row_left after
IsTaken before after None = (after ≡ before) × HasTurned before

-- The next turn begins, if there is one.
abbrev pub bytes_to_turn : Row → ℕ
bytes_to_turn row = if row.is_over then 0 else suc (length row.left.now)

abbrev pub IsTurned : Row → Row → Bool → Type 0
IsTurned before after true = (row_left after ≡ row_left before) × (bytes_to_turn after < bytes_to_turn before)
IsTurned before after false = (after ≡ before) × (row_left before ≡ [])

-- A part of a list is taken, if one begins here.
abbrev pub IsListPart : Row → Row → Option Part → Type 0
IsListPart before after (Some part) = BeginsWith part (row_left before) (row_left after)
IsListPart before after None = after ≡ before
