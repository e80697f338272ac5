use Rattle.std.proofs.Common.{◌≡◌, ◌+◌, drop}
use Rattle.std.specs.List.{prefix_len}
use Rattle.t1_lines.specs.Private.Bytes.{differs}
use Rattle.t1_lines.proofs.words.front_len.Given as goal

abbrev pub invariant-loop-at : goal.invariant-loop-at
invariant-loop-at l = l.at + prefix_len (differs l.byte) (drop l.at l.text) ≡ prefix_len (differs l.byte) l.text
