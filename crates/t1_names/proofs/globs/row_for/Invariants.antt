use Rattle.std.proofs.Common.{◌≡◌, length}
use Rattle.t1_names.proofs.globs.row_for.Given as goal

abbrev pub invariant-loop-character : goal.invariant-loop-character
invariant-loop-character l = length l.row.items ≡ l._character-index
