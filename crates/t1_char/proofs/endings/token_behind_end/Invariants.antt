use Rattle.std.proofs.Common.{◌≡◌, length}
use Rattle.t1_char.specs.Charstrings.{tokens_in}
use Rattle.t1_char.specs.Endings.{behind_end}
use Rattle.t1_char.specs.Private.Cursors.{tokens_left}
use Rattle.t1_char.proofs.endings.token_behind_end.Given as goal

abbrev pub invariant-loop-cursor : goal.invariant-loop-cursor
invariant-loop-cursor l = behind_end (tokens_left l.cursor) ≡ behind_end (tokens_in l.font l.code)

abbrev pub decreases-loop-cursor : goal.decreases-loop-cursor
decreases-loop-cursor l = length (tokens_left l.cursor)
