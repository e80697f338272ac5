use Rattle.std.proofs.Common.{ap, option_map, refl, string_bytes, sym, ◌∙◌}
use Rattle.t1_answer.specs.Shows.Shows.{no_glyph, traced}
use Rattle.t1_answer.proofs.running.show.Goals as goal

pub returns-in_default-glyph_named : goal.returns-in_default-glyph_named
returns-in_default-glyph_named g c =
    no_glyph (string_bytes c.in-Some.name) (ap (option_map string_bytes) c.in-Some.is)
    (sym (rw c.as_bytes.ensures.value at c.glyph_named.ensures.place) ∙ c.in_default-glyph_named.is) refl
    (rw c.as_str.ensures.value at c.tell_no_glyph.ensures)

pub returns : goal.returns
returns g c =
    traced (string_bytes c.in-Some.name) (ap (option_map string_bytes) c.in-Some.is) c.in-Some-glyph_named.glyph
    (sym (rw c.as_bytes.ensures.value at c.glyph_named.ensures.place) ∙ c.in-Some-glyph_named.is)
    c.give_trace.ensures
