use Rattle.std.proofs.Common.{ap, ◌∙◌}
use Rattle.t1_char.specs.Charstrings.{tokens_in}
use Rattle.t1_char.proofs.Executing.{stands_before}
use Rattle.t1_char.proofs.frames.Frames.start.Goals as goal

pub returns-clause-steps : goal.returns-clause-steps
returns-clause-steps c =
    stands_before c.args.font.now c.args.glyph _ _ _ _ _ c.new-3.ensures c.new.ensures c.new-4.ensures c.new-2.ensures
    (c.cursor_at.ensures ∙ ap (tokens_in c.args.font.now) c.code_at.ensures)
