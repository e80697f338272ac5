-- What the CharStrings say (Type 1 Font Format, chapter 2).
use Rattle.std.specs.Prelude.{ℕ, ◌&&◌, Bool, nat_lt, List, codes, length}
use Rattle.std.specs.List.{list_any}
use Rattle.t1_font.specs.Fonts.{FontValue, is_glyph_twice}
use Rattle.t1_font.specs.Keys.{same_name}
use Rattle.t1_rules.specs.Keys.{index_count}

-- The glyph that is drawn for all that are missing.
abbrev pub not_defined : List ℕ
not_defined = codes ".notdef"

-- A glyph has this name.
abbrev pub has_glyph : FontValue → List ℕ → Bool
has_glyph font name = list_any (λ glyph. same_name name glyph.0) font.glyphs

-- The font states the glyph of a number twice; a number that a fault can be at is below 65,536.
abbrev pub is_glyph_given_twice : FontValue → ℕ → Bool
is_glyph_given_twice font glyph =
    nat_lt glyph index_count && nat_lt glyph (length font.glyphs) && is_glyph_twice font glyph
