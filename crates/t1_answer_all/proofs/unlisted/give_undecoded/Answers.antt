use Rattle.std.proofs.Common.{arith}
use Rattle.t1_answer_all.proofs.GivenEach.{given-more, given-up-to, replicate-push, replicate-within}
use Rattle.t1_answer_all.proofs.unlisted.give_undecoded.Goals as goal
use Rattle.t1_answer_all.specs.Unlisted.{undecoded}
use Rattle.t1_many.proofs.ReportLines.{lost_same}

pub returns-in_err-write : goal.returns-in_err-write
returns-in_err-write g c =
    let rest = replicate-within c.loop-time._time c.args.count undecoded (omega (arith, c.loop-time-test.true)) in
    given-up-to g.T.Formatter.writes _ _ _ _ rest.0 _ _ c.in_err-write.field-0.0 _ rest.1
    (lost_same {T = Unit {0}} c.from_residual.result c.in_err-write.field-0.0 c.from_residual.ensures.1) c.loop-time.invariant c.in_err-write.ensures

pub loop-time-preserved : goal.loop-time-preserved
loop-time-preserved g c =
    given-more g.T.Formatter.writes _ _ _ _ _ _ (replicate-push c.loop-time._time undecoded) c.loop-time.invariant
    c.in_ok-write.ensures
