use Rattle.t1_seal.proofs.Openings.{finishes_long, finishes_short}
use Rattle.t1_seal.proofs.opening.Opening.finish.Goals as goal

pub returns-then-too_short : goal.returns-then-too_short
returns-then-too_short c front taken = finishes_short c.args.self front taken c.if-too_short.true

pub returns-else-too_short : goal.returns-else-too_short
returns-else-too_short c front taken = finishes_long c.args.self front taken c.if-too_short.false
