use Rattle.std.proofs.Common.{Option, List, slice_get, ap, sym, ◌∙◌}
use Rattle.t1_char.specs.declared.token.CharToken.{CharToken}
use Rattle.t1_char.specs.Private.Cursors.{tokens_left}
use Rattle.t1_char.proofs.BehindEnd.{first_behind, goes_on, none_behind}
use Rattle.t1_char.proofs.endings.token_behind_end.Goals as goal

abbrev first_of : List CharToken → Option CharToken
first_of ts = slice_get ts 0

pub returns-then-is_end : goal.returns-then-is_end
returns-then-is_end c =
    let none = none_behind c.next_token-token.result (tokens_left c.loop-cursor.cursor) (tokens_left c.next_token-token.new.self) c.next_token-token.ensures
    (sym c.is_end.ensures ∙ c.if-is_end.true) in
    ap first_of (sym none ∙ c.loop-cursor.invariant)

pub returns-then-is_finishing : goal.returns-then-is_finishing
returns-then-is_finishing c =
    let first = first_behind c.next_token-token.result (tokens_left c.loop-cursor.cursor) (tokens_left c.next_token-token.new.self) c.next_token-token.ensures
    (sym c.is_end.ensures ∙ c.if-is_end.false) (sym c.is_finishing.ensures ∙ c.if-is_finishing.true) in
    sym (ap first_of c.next_token.ensures) ∙ ap first_of (sym first ∙ c.loop-cursor.invariant)

pub loop-cursor-preserved : goal.loop-cursor-preserved
loop-cursor-preserved c =
    sym (goes_on c.next_token-token.result (tokens_left c.loop-cursor.cursor) (tokens_left c.next_token-token.new.self) c.next_token-token.ensures
    (sym c.is_end.ensures ∙ c.if-is_end.false) (sym c.is_finishing.ensures ∙ c.if-is_finishing.false))
    ∙ c.loop-cursor.invariant
