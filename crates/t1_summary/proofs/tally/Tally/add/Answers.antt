use Rattle.t1_summary.proofs.TallyCounts.{added}
use Rattle.t1_summary.proofs.tally.Tally.add.Goals as goal

pub returns : goal.returns
returns c = added c.args.self.now c.place-place.result c.saturating_add.result c.args.found c.place-place.ensures c.saturating_add.ensures
