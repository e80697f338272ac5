use Rattle.std.proofs.Common.{arith}
use Rattle.t1_char.proofs.Numbering.{numbered_push}
use Rattle.t1_char.proofs.expansion.Listing.take_one.Goals as goal

pub returns-clause-numbered : goal.returns-clause-numbered
returns-clause-numbered c =
    rw c.in_ok-push.ensures.items (numbered_push c.args.self.now.steps.items _ c.requires.numbered (omega (arith, c.len.ensures, c.args.self.now.steps.ok)))
