use Rattle.std.proofs.Common.{◌≡◌, take}
use Rattle.t1_font.specs.Rows.{row_left}
use Rattle.t1_texts.specs.Given.{is_given}
use Rattle.t1_texts.specs.Private.Watching.{tokens_before}
use Rattle.t1_texts.proofs.earlier.Earlier.is_given.Given as goal

abbrev pub invariant-tokens : goal.invariant-tokens
invariant-tokens l = is_given l.word (take l.left (row_left l.row)) ≡ is_given l.fn.word (tokens_before l.fn.self)

abbrev pub decreases-tokens : goal.decreases-tokens
decreases-tokens l = l.left
