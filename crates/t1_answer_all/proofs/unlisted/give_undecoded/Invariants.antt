use Rattle.std.proofs.Common.{None, replicate}
use Rattle.t1_answer_all.specs.Unlisted.{GivesEach, undecoded}
use Rattle.t1_answer_all.proofs.unlisted.give_undecoded.Given as goal

abbrev pub invariant-loop-time : goal.invariant-loop-time
invariant-loop-time g l =
    GivesEach g.T.Formatter.writes (record { formatter = l.fn.formatter; out = g.W.Sink.state l.fn.out })
    (record { formatter = l.formatter; out = g.W.Sink.state l.out })
    (replicate l._time undecoded) None
