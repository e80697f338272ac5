use Rattle.std.proofs.Common.{◌≡◌, length}
use Rattle.t1_font.specs.Rows.{row_left}
use Rattle.t1_reasons.specs.TextReasons.{names_private}
use Rattle.t1_reasons.proofs.text_reasons.names_private.Given as goal

abbrev pub invariant-tokens : goal.invariant-tokens
invariant-tokens l = names_private (row_left l.left) ≡ names_private (row_left l.fn.row)

abbrev pub decreases-tokens : goal.decreases-tokens
decreases-tokens l = length (row_left l.left)
