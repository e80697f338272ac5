use Rattle.std.proofs.Common.{◌∙◌, ap}
use Rattle.t1_font.specs.Keys.{same_name}
use Rattle.t1_font.specs.PrivateText.{has_key}
use Rattle.t1_font.proofs.FontMaps.{name_has}
use Rattle.t1_rules.proofs.font_rules.glyphs.has_glyph.Goals as goal

pub returns : goal.returns
returns c = c.contains_key.ensures ∙ name_has c.glyphs.result.now.entries c.args.name ∙ ap (λ es. has_key same_name es c.args.name.now) c.glyphs.ensures.entries
