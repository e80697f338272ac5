use Rattle.t1_many.proofs.checking.check_one.Goals as goal
use Rattle.t1_many.specs.Outcomes.{failed}

pub returns-in-Err : goal.returns-in-Err
returns-in-Err g c = (failed c.in-Err.error, c.in-Err.ensures.0, rw c.in-Err.ensures.1 at c.failure.ensures)
