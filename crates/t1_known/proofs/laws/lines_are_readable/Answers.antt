use Rattle.t1_known.proofs.PlainKinds.{lines_are_readable}
use Rattle.t1_known.proofs.laws.lines_are_readable.Goals as goal

pub returns : goal.returns
returns c = lines_are_readable
