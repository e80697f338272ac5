use Rattle.std.proofs.Common.{refl}
use Rattle.t1_summary.proofs.tally.Tally.new.Goals as goal
use Rattle.t1_summary.specs.Tallies.{tally_of}

pub returns : goal.returns
unfolding tally_of
returns c = refl
