use Rattle.std.proofs.Common.{sym, ◌∙◌, arith}
use Rattle.t1_char.specs.Private.Cursors.{tokens_left}
use Rattle.t1_char.proofs.Lasts.{last_at_end, last_in_glyph, last_before_other, last_behind_return}
use Rattle.t1_char.proofs.step.ends.Goals as goal

pub returns-then-is_end-2 : goal.returns-then-is_end-2
returns-then-is_end-2 c =
    sym (last_at_end c.args.depth c.args.token.now _ (tokens_left c.args.behind.now) _ (sym c.is_end.ensures ∙ c.if-is_end.false) c.next_token-next.ensures
    (sym c.is_end-2.ensures ∙ c.if-is_end-2.true))

pub returns-then-depth-eq0 : goal.returns-then-depth-eq0
returns-then-depth-eq0 c =
    sym (last_in_glyph c.args.depth c.args.token.now _ (tokens_left c.args.behind.now) _ (sym c.is_end.ensures ∙ c.if-is_end.false) c.next_token-next.ensures
    (sym c.is_end-2.ensures ∙ c.if-is_end-2.false) c.if-depth-eq0.true)

pub returns-then-not-is_return : goal.returns-then-not-is_return
returns-then-not-is_return c =
    sym (last_before_other c.args.depth c.args.token.now _ (tokens_left c.args.behind.now) _ (sym c.is_end.ensures ∙ c.if-is_end.false)
    c.next_token-next.ensures (sym c.is_end-2.ensures ∙ c.if-is_end-2.false) (sym c.is_return.ensures ∙ c.if-not-is_return.true))

pub returns : goal.returns
returns c =
    c.is_end-3.ensures
    ∙ sym (last_behind_return c.args.depth c.args.token.now _ _ (tokens_left c.args.behind.now) _ _ (sym c.is_end.ensures ∙ c.if-is_end.false)
    c.next_token-next.ensures (sym c.is_end-2.ensures ∙ c.if-is_end-2.false) (omega arith)
    (sym c.is_return.ensures ∙ c.if-not-is_return.false) c.next_token.ensures)
