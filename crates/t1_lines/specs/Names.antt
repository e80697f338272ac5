-- The names of glyphs, or of waivers, have no blank and no delimiter.
use Rattle.std.specs.Prelude.{List, IsTrue}
use Rattle.std.specs.List.{All, list_all}
use Rattle.t1_scan.specs.Bytes.{is_regular}
use Rattle.t1_font.specs.Fonts.{FontValue}
use Rattle.t1_report.specs.Waivers.{Waiver}

abbrev pub HasNames : FontValue → Type 0
HasNames font = All (λ glyph. IsTrue (list_all is_regular glyph.0)) font.glyphs

abbrev pub HaveNames : List Waiver → Type 0
HaveNames waivers = All (λ w. IsTrue (list_all is_regular w.0)) waivers
