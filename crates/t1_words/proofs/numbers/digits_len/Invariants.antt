use Rattle.std.proofs.Common.{◌≡◌, ◌+◌, drop}
use Rattle.std.specs.List.{prefix_len}
use Rattle.t1_scan.specs.Bytes.{is_decimal_digit}
use Rattle.t1_words.proofs.numbers.digits_len.Given as goal

abbrev pub invariant-loop-at : goal.invariant-loop-at
invariant-loop-at l =
    l.at + prefix_len is_decimal_digit (drop l.at l.text) ≡ prefix_len is_decimal_digit l.text
