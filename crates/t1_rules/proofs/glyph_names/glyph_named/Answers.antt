use Rattle.std.proofs.Common.{ℕ, List, ◌∙◌, ap, map}
use Rattle.std.specs.List.{position}
use Rattle.t1_font.specs.Keys.{same_name}
use Rattle.t1_rules.proofs.Lemmas.GlyphPlaces.{name_position}
use Rattle.t1_rules.proofs.glyph_names.glyph_named.Goals as goal

pub returns-clause-place : goal.returns-clause-place
returns-clause-place c =
    c.get_index_of.ensures.index ∙ name_position c.glyphs.result.now.entries c.args.name
    ∙ ap (λ (glyphs : List (List ℕ × List ℕ)). position (same_name c.args.name.now) (map (λ glyph. glyph.0) glyphs)) c.glyphs.ensures.entries
