use Rattle.std.proofs.Common.{◌≡◌, ◌+◌, ◌*◌, ◌<◌, ◌≤◌, drop}
use Rattle.t1_scan.proofs.Values.{billionths}
use Rattle.t1_scan.proofs.digits.billionths.Given as goal

abbrev pub invariant-loop-b : goal.invariant-loop-b
invariant-loop-b l = record {
  below : l.value < 1000000000;
  bound : l.value + 10 * l.unit ≤ 1000000000;
  rest : l.value + billionths l.unit (drop l.b-index l.decimals) ≡ billionths 100000000 l.decimals;
}
