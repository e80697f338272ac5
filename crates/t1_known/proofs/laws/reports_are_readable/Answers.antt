use Rattle.t1_known.proofs.FoundKinds.{reports_are_readable}
use Rattle.t1_known.proofs.laws.reports_are_readable.Goals as goal

pub returns : goal.returns
returns c = reports_are_readable
