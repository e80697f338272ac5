use Rattle.std.proofs.Common.{◌≡◌, ◌+◌, ◌≤◌, length}
use Rattle.t1_known.specs.Lines.{row_lines}
use Rattle.t1_known.proofs.lines.count_rows.Given as goal

abbrev pub invariant-loop-line : goal.invariant-loop-line
invariant-loop-line l = (l.count + length (row_lines l.rest) ≡ length (row_lines l.text)) × (l.count + length l.rest ≤ length l.text)

abbrev pub decreases-loop-line : goal.decreases-loop-line
decreases-loop-line l = length l.rest
