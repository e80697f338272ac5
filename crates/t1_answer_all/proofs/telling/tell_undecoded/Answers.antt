use Rattle.std.proofs.Common.{arith}
use Rattle.t1_answer_all.proofs.Times.{told_again, told_partly}
use Rattle.t1_answer_all.proofs.telling.tell_undecoded.Goals as goal
use Rattle.t1_answer_all.specs.Telling.{undecoded_line}
use Rattle.t1_io.proofs.SinkLemmas.{Writes-failed}

pub returns-in_err-put_all : goal.returns-in_err-put_all
returns-in_err-put_all g c =
    Writes-failed _ _ _ _ _ c.from_residual.ensures.1
    (told_partly _ _ _ c.loop-time._time c.args.count undecoded_line (omega (arith, c.loop-time-test.true)) c.loop-time.invariant c.in_err-put_all.ensures)

pub loop-time-preserved : goal.loop-time-preserved
loop-time-preserved g c = told_again _ _ _ c.loop-time._time undecoded_line c.loop-time.invariant c.in_ok-put_all.ensures
