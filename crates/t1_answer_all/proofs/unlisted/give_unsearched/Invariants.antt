use Rattle.std.proofs.Common.{None, map, string_bytes, take}
use Rattle.t1_answer_all.specs.Unlisted.{GivesEach, unsearched}
use Rattle.t1_answer_all.proofs.unlisted.give_unsearched.Given as goal

abbrev pub invariant-loop-folder : goal.invariant-loop-folder
invariant-loop-folder g l =
    GivesEach g.T.Formatter.writes (record { formatter = l.fn.formatter; out = g.W.Sink.state l.fn.out })
    (record { formatter = l.formatter; out = g.W.Sink.state l.out })
    (map (λ folder. unsearched (string_bytes folder)) (take l.folder-index l.folders)) None
