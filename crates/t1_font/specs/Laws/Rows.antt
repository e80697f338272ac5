-- Rows go as the reader goes.
use Rattle.std.specs.Prelude.{◌≡◌, ℕ, Ok, List}
use Rattle.t1_font.specs.declared.mode.ClearMode.{ClearMode}
use Rattle.t1_font.specs.declared.mode.PrivateMode.{PrivateMode}
use Rattle.t1_font.specs.ClearText.{clear_turn}
use Rattle.t1_font.specs.Fonts.{FontValue}
use Rattle.t1_font.specs.PrivateText.{private_turn}
use Rattle.t1_font.specs.Rows.{nothing_stated}
use Rattle.t1_font.specs.TextTurns.{TextTurn}

-- A turn that the reader takes, whatever was stated before it, is the one by which the row goes on.
abbrev pub RowsGoAsTheReader : Type 0
RowsGoAsTheReader =
    ((font : FontValue) (mode : ClearMode) (s : List ℕ) (turn : TextTurn ClearMode) →
    clear_turn font mode s ≡ Ok turn → clear_turn nothing_stated mode s ≡ Ok turn)
    × ((font : FontValue) (mode : PrivateMode) (s : List ℕ) (turn : TextTurn PrivateMode) →
    private_turn font mode s ≡ Ok turn → private_turn nothing_stated mode s ≡ Ok turn)
