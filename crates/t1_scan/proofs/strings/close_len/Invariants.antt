use Rattle.std.proofs.Common.{◌≡◌, drop}
use Rattle.t1_scan.specs.Lengths.{further, close_len}
use Rattle.t1_scan.proofs.strings.close_len.Given as goal

abbrev pub invariant-loop-at : goal.invariant-loop-at
invariant-loop-at l = further l.at (close_len (drop l.at l.text)) ≡ close_len l.text
