use Rattle.std.proofs.Common.{arith}
use Rattle.t1_summary.proofs.TallyCounts.{line_added}
use Rattle.t1_summary.proofs.tally.Tally.add_line.Goals as goal

pub returns : goal.returns
returns c =
    line_added c.args.self.now _ c.saturating_add.result c.args.rule (omega (arith, c.from-place.ensures, c.number.ensures.number))
    c.saturating_add.ensures
