use Rattle.std.proofs.Common.{refl, sym, ◌∙◌}
use Rattle.t1_font.proofs.Entries.{glyph_entry, glyph_word}
use Rattle.t1_font.proofs.row.glyph_part.Goals as goal

pub returns-then-is_name : goal.returns-then-is_name
returns-then-is_name c = λ s is. glyph_entry s _ _ _ _ is (sym c.is_name.ensures ∙ c.if-is_name.true) c.in-Ok.ensures.read c.in-Ok.ensures.word refl refl

pub returns-then-not-is_word : goal.returns-then-not-is_word
returns-then-not-is_word c = λ s is.
    glyph_word s _ is (sym c.is_any_word.ensures ∙ c.if-is_any_word.true) (sym c.is_word.ensures ∙ c.if-not-is_word.true)
