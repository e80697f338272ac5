use Rattle.std.proofs.Common.{◌≡◌, sum, take}
use Rattle.t1_summary.proofs.tally.Tally.fonts.Given as goal
use Rattle.t1_summary.specs.Classes.{capped}

abbrev pub invariant-loop-count : goal.invariant-loop-count
invariant-loop-count l = l.fonts ≡ capped (sum (take l.count-index l.self.fonts))
