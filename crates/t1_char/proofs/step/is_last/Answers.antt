use Rattle.std.proofs.Common.{not, ap, sym, ◌∙◌, arith}
use Rattle.t1_char.proofs.LastsAhead.{last_nowhere, last_of_none}
use Rattle.t1_char.proofs.step.is_last.Goals as goal

pub returns-then-left_len-gt1 : goal.returns-then-left_len-gt1
returns-then-left_len-gt1 c =
    sym (last_nowhere c.args.depth c.args.token.now c.args.behind.now (omega (arith, c.left_len.ensures, c.if-left_len-gt1.true)))

pub returns-then-is_empty : goal.returns-then-is_empty
returns-then-is_empty c =
    ap not c.is_end.ensures
    ∙ sym (last_of_none c.args.depth c.args.token.now _ (c.is_empty.ensures c.if-is_empty.true))
