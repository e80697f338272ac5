use Rattle.std.proofs.Common.{append_assoc}
use Rattle.t1_io.proofs.SinkLemmas.{PutFailed-first, PutFailed-second, Writes-failed, Writes-then}
use Rattle.t1_summary.proofs.lines.summary.Goals as goal

pub returns-in_err-put_fonts : goal.returns-in_err-put_fonts
returns-in_err-put_fonts g c =
    Writes-failed _ _ _ _ _ c.from_residual.ensures.1 (PutFailed-first _ _ _ _ (PutFailed-first _ _ _ _ c.in_err-put_fonts.ensures))

pub returns-in_err-put_rows : goal.returns-in_err-put_rows
returns-in_err-put_rows g c =
    Writes-failed _ _ _ _ _ c.from_residual-in_err-put_rows.ensures.1
    (PutFailed-first _ _ _ _ (PutFailed-second _ _ _ _ _ c.in_ok-put_fonts.ensures c.in_err-put_rows.ensures))

pub returns : goal.returns
returns g c =
    rw append_assoc (Writes-then _ _ _ _ _ _ c.in_ok-put_fonts.ensures (Writes-then _ _ _ _ _ _ c.in_ok-put_rows.ensures c.put_rules.ensures))
