use Rattle.std.proofs.Common.{refl}
use Rattle.t1_answer_all.proofs.running.conclude.Goals as goal
use Rattle.t1_answer_all.specs.Runs.Concludes.{stopped, told}

pub returns-in-Ok : goal.returns-in-Ok
returns-in-Ok g c = told c.in-Ok.left (λ all are. c.in-Ok.ensures all are) refl

pub returns-in-Err : goal.returns-in-Err
returns-in-Err g c =
    stopped c.in-Err.lost (g.E.Sink.state c.end.new.errors) (λ all are. c.in-Err.ensures all are) c.tell_lost.result c.tell_lost.ensures
    c.nothing_left.ensures
