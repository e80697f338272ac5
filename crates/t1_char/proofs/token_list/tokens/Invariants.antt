use Rattle.std.proofs.Common.{◌≡◌, ◌++◌, length}
use Rattle.t1_char.specs.Tokens.{charstring_tokens}
use Rattle.t1_char.specs.Private.Cursors.{tokens_left}
use Rattle.t1_char.proofs.token_list.tokens.Given as goal

abbrev pub invariant-loop-tokens : goal.invariant-loop-tokens
invariant-loop-tokens l = l.tokens.items ++ tokens_left l.cursor ≡ charstring_tokens l.len_iv l.code

abbrev pub decreases-loop-tokens : goal.decreases-loop-tokens
decreases-loop-tokens l = length (tokens_left l.cursor)
