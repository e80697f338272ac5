use Rattle.t1_many.proofs.RowsRead.{exact}
use Rattle.t1_many.proofs.row.read_row.Goals as goal

pub returns : goal.returns
returns c = exact c.args.line.now c.whole_row.result c.whole_row.ensures
