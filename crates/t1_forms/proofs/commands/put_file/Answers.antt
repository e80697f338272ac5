use Rattle.t1_io.proofs.SinkLemmas.{PutFailed-first, PutFailed-second, Writes-failed, Writes-then}
use Rattle.t1_forms.proofs.commands.put_file.Goals as goal

pub returns-in_err-put_all : goal.returns-in_err-put_all
returns-in_err-put_all g c =
    rw c.in-Some.is (Writes-failed _ _ _ _ _ c.from_residual.ensures.1 (PutFailed-first _ _ _ _ c.in_err-put_all.ensures))

pub returns-in_err-put_escaped : goal.returns-in_err-put_escaped
returns-in_err-put_escaped g c =
    rw c.in-Some.is
    (Writes-failed _ _ _ _ _ c.from_residual-in_err-put_escaped.ensures.1
    (PutFailed-second _ _ _ _ _ c.in_ok-put_all.ensures (PutFailed-first _ _ _ _ c.in_err-put_escaped.ensures)))

pub returns : goal.returns
returns g c =
    rw c.in-Some.is
    (Writes-then _ _ _ _ _ _ c.in_ok-put_all.ensures (Writes-then _ _ _ _ _ _ c.in_ok-put_escaped.ensures c.put_all-2.ensures))
