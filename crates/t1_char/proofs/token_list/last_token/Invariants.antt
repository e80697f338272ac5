use Rattle.std.proofs.Common.{◌≡◌, length}
use Rattle.t1_char.specs.Charstrings.{tokens_in}
use Rattle.t1_char.specs.Endings.{last_before_end, last_token}
use Rattle.t1_char.specs.Private.Cursors.{tokens_left}
use Rattle.t1_char.proofs.token_list.last_token.Given as goal

abbrev pub invariant-loop-cursor : goal.invariant-loop-cursor
invariant-loop-cursor l = last_before_end l.last (tokens_left l.cursor) ≡ last_token (tokens_in l.fn.font l.code)

abbrev pub decreases-loop-cursor : goal.decreases-loop-cursor
decreases-loop-cursor l = length (tokens_left l.cursor)
