use Rattle.std.proofs.Common.{◌≡◌, ◌+◌, drop}
use Rattle.t1_scan.specs.Lengths.{run_len}
use Rattle.t1_scan.proofs.runs.run_len.Given as goal

abbrev pub invariant-loop-at : goal.invariant-loop-at
invariant-loop-at l = l.at + run_len (drop l.at l.text) ≡ run_len l.text
