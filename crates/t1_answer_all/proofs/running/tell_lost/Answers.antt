use Rattle.t1_answer_all.proofs.running.tell_lost.Goals as goal

pub returns-in-Device : goal.returns-in-Device
returns-in-Device g c = rw c.in-Device.is c.tell_write_failed.ensures

pub returns-in-Memory : goal.returns-in-Memory
returns-in-Memory g c = rw c.in-Memory.is c.tell_failure.ensures
