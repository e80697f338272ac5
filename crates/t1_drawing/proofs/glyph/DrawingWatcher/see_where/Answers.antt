use Rattle.t1_drawing.proofs.glyph.DrawingWatcher.see_where.Goals as goal

pub returns-then-draws-clause-stands : goal.returns-then-draws-clause-stands
returns-then-draws-clause-stands c = λ edition box before both short latest.
    c.see.ensures.stands edition box before both.watched (both.drawn latest) short
