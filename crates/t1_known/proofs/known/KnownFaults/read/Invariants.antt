use Rattle.std.proofs.Common.{length}
use Rattle.t1_known.proofs.SoFar.{HasRead}
use Rattle.t1_known.proofs.known.KnownFaults.read.Given as goal

abbrev pub invariant-loop-line : goal.invariant-loop-line
invariant-loop-line l = HasRead l.text l.number l.rest l.rows.entries

abbrev pub decreases-loop-line : goal.decreases-loop-line
decreases-loop-line l = length l.rest
