use Rattle.std.proofs.Common.{◌∙◌}
use Rattle.t1_io.proofs.SinkLemmas.{PutFailed-first, Writes-failed, Writes-then}
use Rattle.t1_report.proofs.lines.write_path.Goals as goal

pub returns-in_err-put_all : goal.returns-in_err-put_all
returns-in_err-put_all g c =
    rw c.in-Some.ensures.cases.0
    (Writes-failed _ _ _ _ _ c.from_residual.ensures.1
    (PutFailed-first _ _ _ _ (rw (c.as_bytes.ensures.value ∙ c.format.ensures.text) at c.in_err-put_all.ensures)))

pub returns : goal.returns
returns g c =
    rw c.in-Some.ensures.cases.0
    (Writes-then _ _ _ _ _ _ (rw (c.as_bytes.ensures.value ∙ c.format.ensures.text) at c.in_ok-put_all.ensures) c.write_inner.ensures)
