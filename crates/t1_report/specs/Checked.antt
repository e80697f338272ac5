-- A font, and the edition of the rule book by which it is checked.
use Rattle.std.specs.Prelude.{ℕ}
use Rattle.t1_char.specs.declared.edition.Edition.{Edition}
use Rattle.t1_char.specs.Editions.{limit_of}
use Rattle.t1_font.specs.Fonts.{FontValue}

pub record CheckedFont : Type 0 where
  pub value : FontValue
  pub edition : Edition

abbrev pub checked : FontValue → Edition → CheckedFont
checked font edition = record { value = font; edition = edition }

-- How many steps of a glyph are checked.
abbrev pub step_limit : CheckedFont → ℕ
step_limit font = limit_of font.edition
