use Rattle.t1_run.proofs.telling.tell_failure.Goals as goal

pub returns-in-Broken : goal.returns-in-Broken
returns-in-Broken g c = rw c.in-Broken.is c.tell_of.ensures
