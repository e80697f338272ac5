use Rattle.std.proofs.Common.{◌≡◌, ◌+◌, ◌-◌, ◌≤◌, length, drop}
use Rattle.t1_scan.specs.Lengths.{further, inside_len}
use Rattle.t1_scan.proofs.nesting.inside_len.Given as goal

abbrev pub invariant-loop-at : goal.invariant-loop-at
invariant-loop-at l = record {
  within : l.at ≤ length l.text;
  some : 1 ≤ l.arrays + l.braces;
  shallow : l.arrays + l.braces ≤ 32;
  rest : further l.at (inside_len 0 l.arrays l.braces (drop l.at l.text)) ≡ inside_len 0 l.fn.arrays l.fn.braces l.text;
}

abbrev pub decreases-loop-at : goal.decreases-loop-at
decreases-loop-at l = length l.text - l.at
