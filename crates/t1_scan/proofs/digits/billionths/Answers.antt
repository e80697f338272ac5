use Rattle.std.proofs.Common.{◌≡◌, ◌≤◌, ◌∙◌, arith}
use Rattle.t1_scan.proofs.Values.{digit_at, digit_fits, billionths, billionths_more, billionths_end, billionths-value}
use Rattle.t1_scan.proofs.digits.billionths.Goals as goal

pub loop-b-preserved : goal.loop-b-preserved
loop-b-preserved c =
    let nine : c.digit_value.result ≤ 9 = rw c.digit_value.ensures.value (digit_at c.args.decimals.now c.loop-b.b-index c.requires c.loop-b-test.true) in
    let fits = digit_fits c.digit_value.result c.loop-b.unit nine in
    let more = rw (← c.digit_value.ensures.value) at (billionths_more c.loop-b.unit c.args.decimals.now c.loop-b.b-index c.loop-b-test.true) in
    record { below = omega (arith, fits); bound = omega (arith, fits); rest = omega (arith, more) }

pub returns-clause-value : goal.returns-clause-value
returns-clause-value c =
    let e = billionths_end c.loop-b.unit c.args.decimals.now c.loop-b.b-index (omega arith) in
    let whole : c.loop-b.value ≡ billionths 100000000 c.args.decimals.now = omega arith in
    whole ∙ billionths-value c.args.decimals.now c.requires
