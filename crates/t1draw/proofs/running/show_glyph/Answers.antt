use Rattle.std.proofs.Common.{inl, inr, refl, sym, ◌∙◌}
use Rattle.t1draw.specs.Draws.DrawsGlyph.{no_fault, no_glyph, no_memory}
use Rattle.t1draw.proofs.running.show_glyph.Goals as goal

pub returns-in-Ok : goal.returns-in-Ok
returns-in-Ok g c =
    no_glyph (sym c.glyph_named.ensures.place ∙ c.in_default.is) refl (rw (c.as_str.ensures.value, c.in-Ok.ensures) at c.tell_no_glyph.ensures)

pub returns-in-Ok-shown_by : goal.returns-in-Ok-shown_by
returns-in-Ok-shown_by g c =
    c.give_picture.ensures c.args.name.now c.args.extent (sym c.glyph_named.ensures.place ∙ c.in-Some.is) c.in-Ok-shown_by.ensures.shown

pub returns-in-Err-shown_by : goal.returns-in-Err-shown_by
returns-in-Err-shown_by g c =
    let named = sym c.glyph_named.ensures.place ∙ c.in-Some.is in
    let none = c.in-Err-shown_by.ensures.none in
    elim c.tell_no_fault.ensures [
      | inl said ↦ no_fault c.in-Some.glyph c.in-Err-shown_by.none.number named none.0 none.1 refl said
      | inr said ↦ no_memory refl said
    ]
