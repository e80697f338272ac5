use Rattle.std.proofs.Common.{◌≡◌, ◌+◌, ◌≤◌, drop, false}
use Rattle.t1_scan.specs.Lengths.{further, string_len}
use Rattle.t1_scan.proofs.strings.string_len.Given as goal

abbrev pub invariant-loop-at : goal.invariant-loop-at
invariant-loop-at l = record {
  low : 1 ≤ l.depth;
  high : l.depth ≤ l.at + 1;
  rest : further l.at (string_len l.escaped l.depth (drop l.at l.text)) ≡ string_len false 1 l.text;
}
