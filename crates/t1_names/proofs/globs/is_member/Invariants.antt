use Rattle.std.proofs.Common.{◌≡◌, length}
use Rattle.t1_names.specs.Globs.{in_set}
use Rattle.t1_names.proofs.globs.is_member.Given as goal

abbrev pub invariant-loop-first : goal.invariant-loop-first
invariant-loop-first l = in_set l.rest l.c ≡ in_set l.fn.members l.c

abbrev pub decreases-loop-first : goal.decreases-loop-first
decreases-loop-first l = length l.rest
