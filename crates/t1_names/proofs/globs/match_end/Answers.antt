use Rattle.std.proofs.Common.{arith}
use Rattle.t1_names.proofs.GlobLemmas.{row_at_end}
use Rattle.t1_names.proofs.globs.match_end.Goals as goal

pub returns : goal.returns
returns c =
    row_at_end c.args.name.now c.loop-at.row (omega arith) (λ k less. c.loop-at.invariant k (omega arith))
