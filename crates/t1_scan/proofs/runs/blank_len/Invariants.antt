use Rattle.std.proofs.Common.{◌≡◌, ◌+◌, drop, false}
use Rattle.t1_scan.specs.Lengths.{blank_len}
use Rattle.t1_scan.proofs.runs.blank_len.Given as goal

abbrev pub invariant-loop-at : goal.invariant-loop-at
invariant-loop-at l = l.at + blank_len l.in_comment (drop l.at l.text) ≡ blank_len false l.text
