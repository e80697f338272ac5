use Rattle.t1_known.proofs.UpdatedRows.{updates_are_reached, updates_are_read_back}
use Rattle.t1_known.proofs.laws.updates_are_read_back.Goals as goal

pub returns-clause-read : goal.returns-clause-read
returns-clause-read c = updates_are_read_back

pub returns-clause-reached : goal.returns-clause-reached
returns-clause-reached c = updates_are_reached
