use Rattle.std.proofs.Common.{◌≡◌, ◌+◌, ◌<◌, true, drop, take}
use Rattle.std.specs.List.{list_all}
use Rattle.std.specs.Str.Parse.{digits_value}
use Rattle.t1_scan.specs.Bytes.{is_decimal_digit}
use Rattle.t1_scan.specs.Lengths.{run_len}
use Rattle.t1_scan.proofs.digits.digits_alone.Given as goal

abbrev pub invariant-loop-at : goal.invariant-loop-at
invariant-loop-at l = record {
  run : l.at + run_len (drop l.at l.text) ≡ run_len l.text;
  digits : list_all is_decimal_digit (take l.at l.text) ≡ true;
  spelled : l.value ≡ digits_value 10 (take l.at l.text);
  bound : l.value < 1000000000;
}
