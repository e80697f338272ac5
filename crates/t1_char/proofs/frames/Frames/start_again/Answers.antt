use Rattle.std.proofs.Common.{ap, ◌∙◌}
use Rattle.t1_char.specs.Charstrings.{tokens_in}
use Rattle.t1_char.proofs.Executing.{stands_before}
use Rattle.t1_char.proofs.frames.Frames.start_again.Goals as goal

pub returns-clause-steps : goal.returns-clause-steps
returns-clause-steps c =
    stands_before c.args.font.now c.args.glyph _ _ _ _ _ c.clear-3.ensures c.clear.ensures c.clear-4.ensures c.clear-2.ensures
    (c.cursor_at-self.ensures ∙ ap (tokens_in c.args.font.now) c.code_at.ensures)
