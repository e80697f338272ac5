use Rattle.std.proofs.Common.{◌≡◌, ◌≤◌, ◌+◌, length, false}
use Rattle.std.specs.List.{find}
use Rattle.t1_reasons.specs.TextReasons.{bytes_from, is_high_byte}
use Rattle.t1_reasons.proofs.text_reasons.high_byte.Given as goal

abbrev pub invariant-loop-rest : goal.invariant-loop-rest
invariant-loop-rest l = record {
  few : l.line + length l.rest ≤ 1 + length l.text;
  found : find is_high_byte (bytes_from l.line l.is_behind l.rest) ≡ find is_high_byte (bytes_from 1 false l.text);
}

abbrev pub decreases-loop-rest : goal.decreases-loop-rest
decreases-loop-rest l = length l.rest
