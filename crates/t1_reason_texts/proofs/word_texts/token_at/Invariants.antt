use Rattle.std.proofs.Common.{◌≡◌, slice_get}
use Rattle.t1_font.specs.Rows.{row_left}
use Rattle.t1_reason_texts.proofs.word_texts.token_at.Given as goal

abbrev pub invariant-tokens : goal.invariant-tokens
invariant-tokens l = slice_get (row_left l.row) l.left ≡ slice_get (row_left l.fn.row) l.fn.place

abbrev pub decreases-tokens : goal.decreases-tokens
decreases-tokens l = l.left
