use Rattle.t1_io.proofs.SinkLemmas.{PutFailed-first, PutFailed-second, Wrote-trans}
use Rattle.t1_many.proofs.Puts.{put_failed}
use Rattle.t1_many.proofs.plain.put_line.Goals as goal

pub returns-in_err-put_parts : goal.returns-in_err-put_parts
returns-in_err-put_parts g c =
    put_failed c.from_residual.result _ _ _ c.from_residual.ensures.1
    (PutFailed-first _ _ _ _ (rw c.as_bytes.ensures.value at c.in_err-put_parts.ensures))

pub returns-in_err-write_fault : goal.returns-in_err-write_fault
returns-in_err-write_fault g c =
    put_failed c.from_residual-in_err-write_fault.result _ _ _ c.from_residual-in_err-write_fault.ensures.1
    (PutFailed-second _ _ _ _ _ (rw c.as_bytes.ensures.value at c.in_ok-put_parts.ensures) c.in_err-write_fault.ensures)

pub returns : goal.returns
returns g c = Wrote-trans _ _ _ _ _ (rw c.as_bytes.ensures.value at c.in_ok-put_parts.ensures) c.in_ok-write_fault.ensures
