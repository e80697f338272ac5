use Rattle.std.proofs.Common.{◌≡◌, length}
use Rattle.t1_font.specs.Rows.{row_left}
use Rattle.t1_texts.specs.PrivateDictionary.{has_private}
use Rattle.t1_texts.proofs.private_dictionary.has_private_dictionary.Given as goal

abbrev pub invariant-tokens : goal.invariant-tokens
invariant-tokens l = has_private (row_left l.left) ≡ has_private (row_left l.fn.row)

abbrev pub decreases-tokens : goal.decreases-tokens
decreases-tokens l = length (row_left l.left)
