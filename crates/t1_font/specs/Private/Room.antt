-- Room for one glyph more.
use Rattle.std.specs.Prelude.{◌≡◌, ◌&&◌, Option, Some, List, ℕ, false, not, length, nat_le}
use Rattle.t1_font.specs.Keys.{same_name}
use Rattle.t1_font.specs.Fonts.{Stated, glyph, FontValue}
use Rattle.t1_font.specs.PrivateText.{has_key}
use Rattle.t1_font.specs.Bounds.{most_glyphs}

-- There is room for a glyph of this name: fewer than 65,535 are there, or it is one of them.
abbrev pub HasRoom : FontValue → List ℕ → Type 0
HasRoom v name = (nat_le most_glyphs (length v.glyphs) && not (has_key same_name v.glyphs name)) ≡ false

-- There is room for what a statement, if there is one, adds.
abbrev pub HasRoomFor : FontValue → Option Stated → Type 0
HasRoomFor v (Some (glyph name bytes)) = HasRoom v name
HasRoomFor v _ = Unit {0}
