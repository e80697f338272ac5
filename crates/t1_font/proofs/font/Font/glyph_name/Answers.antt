use Rattle.std.proofs.Common.{ap}
use Rattle.t1_font.proofs.FontMaps.{name_at, no_name_past}
use Rattle.t1_font.proofs.font.Font.glyph_name.Goals as goal

pub returns-in-Some : goal.returns-in-Some
returns-in-Some c = name_at c.args.self.now _ _ _ _ (ap (λ v. v.glyphs) c.self.view_is) c.in-Some.ensures.entry

pub returns-in-None : goal.returns-in-None
returns-in-None c = no_name_past c.args.self.now _ _ (ap (λ v. v.glyphs) c.self.view_is) c.in-None.ensures.entry
