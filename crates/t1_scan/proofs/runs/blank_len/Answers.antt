use Rattle.std.proofs.Common.{arith}
use Rattle.t1_scan.proofs.Steps.{blank_end}
use Rattle.t1_scan.proofs.runs.blank_len.Goals as goal

pub returns-clause-value : goal.returns-clause-value
returns-clause-value c =
    let e = blank_end c.args.text.now c.loop-at.at c.loop-at.in_comment (omega arith) in omega (arith, e)
