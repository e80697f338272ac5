use Rattle.t1_known.proofs.ReadBack.{rows_are_read_back}
use Rattle.t1_known.proofs.laws.rows_are_read_back.Goals as goal

pub returns : goal.returns
returns c = rows_are_read_back
