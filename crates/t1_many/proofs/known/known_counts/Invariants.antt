use Rattle.std.proofs.Common.{take}
use Rattle.t1_many.proofs.known.known_counts.Given as goal
use Rattle.t1_many.specs.Counts.{kind_counts}
use Rattle.t1_many.specs.Private.Counts.{AreKnown}

abbrev pub invariant-loop-place : goal.invariant-loop-place
invariant-loop-place g l =
    AreKnown (g.K.Known.counts l.known) l.name (take l.place (kind_counts l.found.entries)) (kind_counts l.counts.entries)
