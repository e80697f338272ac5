use Rattle.t1_known.proofs.KeptRows.{key_cut}
use Rattle.t1_known.proofs.known.key_in.Goals as goal
use Rattle.t1_many.specs.RowValues.{row_value}

pub returns : goal.returns
returns c = key_cut c.args.line.now (row_value c.args.row) c.requires
