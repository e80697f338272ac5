use Rattle.t1_char.proofs.Executing.{executed_plain}
use Rattle.t1_char.proofs.frames.Frames.execute.Goals as goal

pub returns-then-apply_plain-clause-steps : goal.returns-then-apply_plain-clause-steps
returns-then-apply_plain-clause-steps c =
    executed_plain c.args.font.now c.args.self.now _ c.requires (c.apply_plain.ensures.plain c.if-apply_plain.true)
