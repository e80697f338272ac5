-- The glyph that was executed last.
use Rattle.std.specs.Prelude.{◌≡◌, Option, Some, None}
use Rattle.t1_char.specs.declared.edition.Edition.{Edition}
use Rattle.t1_char.specs.Turns.{MachineView}
use Rattle.t1_font.specs.Fonts.{FontValue}

-- It is one of this font, executed by this edition, where there is one.
abbrev pub IsOfFont : FontValue → Edition → Option MachineView → Type 0
IsOfFont font edition None = Unit {0}
IsOfFont font edition (Some m) = (m.font ≡ font) × (m.edition ≡ edition)
