use Rattle.std.proofs.Common.{◌+◌, sym}
use Rattle.std.proofs.lemmas.Int.Digits.{digits_value_more}
use Rattle.t1_scan.proofs.Values.{not_below}
use Rattle.t1_scan.proofs.digits.small_value.Goals as goal

pub returns-then-value-ge-BILLION-clause-value : goal.returns-then-value-ge-BILLION-clause-value
returns-then-value-ge-BILLION-clause-value c =
    let more = digits_value_more c.args.base c.args.digits.now c.loop-b.b-index c.loop-b-test.true in
    sym (not_below c.args.base c.args.digits.now (c.loop-b.b-index + 1) c.requires.low
    (rw (more, ← c.loop-b.invariant.value, ← c.digit_value.ensures.value) c.if-value-ge-BILLION.true))
