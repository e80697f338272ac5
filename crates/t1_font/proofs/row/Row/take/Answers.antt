use Rattle.t1_font.proofs.RowsLeft.{row_taken}
use Rattle.t1_font.proofs.row.Row.take.Goals as goal

pub returns : goal.returns
returns c = rw (c.in_default.is, c.pass-2.ensures.token, c.pass-2.ensures.left) (row_taken _ _ _ _ _ _ c.in_ok-token.ensures)
