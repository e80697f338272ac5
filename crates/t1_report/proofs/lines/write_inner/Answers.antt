use Rattle.std.proofs.Common.{◌∙◌}
use Rattle.t1_io.proofs.SinkLemmas.{PutFailed-part, Writes-failed}
use Rattle.t1_report.specs.Lines.{inner_text}
use Rattle.t1_report.proofs.lines.write_inner.Goals as goal

pub returns-in_err-put_parts : goal.returns-in_err-put_parts
returns-in_err-put_parts g c =
    Writes-failed _ _ _ _ _ c.from_residual.ensures.1
    (PutFailed-part inner_text c.args.numbers.now c.loop-number.number-index _ _ _ _ c.loop-number-test.true c.loop-number.invariant.wrote
    (rw (c.as_bytes.ensures.value ∙ c.format.ensures.text) at c.in_err-put_parts.ensures))
