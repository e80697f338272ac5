use Rattle.std.proofs.Common.{◌≡◌, take}
use Rattle.t1_font.specs.Rows.{row_left}
use Rattle.t1_texts.specs.Private.Watching.{tokens_before}
use Rattle.t1_texts.specs.Readers.{is_reader}
use Rattle.t1_texts.proofs.Looking.{reads_on}
use Rattle.t1_texts.proofs.earlier.Earlier.is_reader.Given as goal

abbrev pub invariant-tokens : goal.invariant-tokens
invariant-tokens l = reads_on l.word l.is_behind l.reads (take l.left (row_left l.row)) ≡ is_reader l.fn.word (tokens_before l.fn.self)

abbrev pub decreases-tokens : goal.decreases-tokens
decreases-tokens l = l.left
