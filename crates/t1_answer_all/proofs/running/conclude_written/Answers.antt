use Rattle.t1_answer_all.proofs.running.conclude_written.Goals as goal

pub returns-in-Ok : goal.returns-in-Ok
returns-in-Ok g c = rw c.in-Ok.is c.conclude.ensures
