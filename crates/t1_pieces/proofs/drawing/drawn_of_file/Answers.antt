use Rattle.std.proofs.Common.{sym}
use Rattle.t1_pieces.proofs.drawing.drawn_of_file.Goals as goal

pub returns-clause-drawn : goal.returns-clause-drawn
returns-clause-drawn c = rw (sym c.in_ok-file.ensures.opened, c.in_ok-font.ensures.gives) c.drawn_of_font-drawn.ensures.drawn
