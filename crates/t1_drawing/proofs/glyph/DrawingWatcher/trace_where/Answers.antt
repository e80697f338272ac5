use Rattle.std.proofs.Common.{◌≡◌, false, true, sym, ◌∙◌}
use Rattle.t1_drawing.proofs.glyph.DrawingWatcher.trace_where.Goals as goal

pub returns-then-draws-clause-stands : goal.returns-then-draws-clause-stands
returns-then-draws-clause-stands c = λ edition box before both short latest.
    c.trace.ensures.stands edition box before both.watched (both.drawn latest) short

pub returns-then-draws-clause-traced : goal.returns-then-draws-clause-traced
returns-then-draws-clause-traced c = λ edition box before both short latest.
    c.trace.ensures.traced edition box before both.watched (both.drawn latest) short

pub returns-else-draws-clause-traced : goal.returns-else-draws-clause-traced
returns-else-draws-clause-traced c = λ edition box before both short latest.
    let no : false ≡ true = sym c.if-draws.false ∙ both.where_drawn ∙ latest in cc
