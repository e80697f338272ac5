use Rattle.std.proofs.Common.{sym}
use Rattle.t1_pieces.proofs.reading.lines_of_file.Goals as goal

pub returns-clause-piece : goal.returns-clause-piece
returns-clause-piece c = rw (sym c.in_ok-file.ensures.opened, c.in_ok-font.ensures.gives) c.lines_of_font-piece.ensures.piece
