use Rattle.std.proofs.Common.{refl, sym}
use Rattle.t1_picture.specs.Subjects.{shown_value}
use Rattle.t1_pieces.proofs.drawing.drawn_of_font.Goals as goal
use Rattle.t1_pieces.specs.Drawings.IsDrawn.{drawn, no_fault}

pub returns-in_default-shown_by-clause-drawn : goal.returns-in_default-shown_by-clause-drawn
returns-in_default-shown_by-clause-drawn c =
    rw (c.in_ok-waivers.ensures.read, sym c.in_ok-sidebearings.ensures.edition)
    (no_fault c.in-Some.glyph (sym c.in-Some.ensures.place) c.in_default-shown_by.ensures.none.1 refl)

pub returns-clause-drawn : goal.returns-clause-drawn
returns-clause-drawn c =
    rw (c.in_ok-waivers.ensures.read, sym c.in_ok-sidebearings.ensures.edition)
    (drawn c.in-Some.glyph c.as_bytes.result.now (sym c.in-Some.ensures.place) (record {
      shown = shown_value c.in-Ok.shown;
      is_shown = c.in-Ok.ensures.shown;
      is_picture = rw (sym c.as_bytes.ensures.value) at c.in_ok-text.ensures;
    }) c.put_text.ensures.text)
