use Rattle.t1_summary.proofs.TallyCounts.{tallies_count}
use Rattle.t1_summary.proofs.laws.tallies_count.Goals as goal

pub returns : goal.returns
returns c = tallies_count
