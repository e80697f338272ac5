use Rattle.std.proofs.Common.{◌≡◌, ◌+◌, drop}
use Rattle.t1_scan.specs.Lengths.{comment_len}
use Rattle.t1_scan.proofs.runs.comment_len.Given as goal

abbrev pub invariant-loop-at : goal.invariant-loop-at
invariant-loop-at l = l.at + comment_len (drop l.at l.text) ≡ comment_len l.text
