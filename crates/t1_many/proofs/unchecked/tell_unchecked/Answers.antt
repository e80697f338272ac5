use Rattle.t1_io.proofs.SinkLemmas.{PutFailed-first, Writes-failed, Writes-then}
use Rattle.t1_many.proofs.unchecked.tell_unchecked.Goals as goal

pub returns-in_err-put_in_one_line : goal.returns-in_err-put_in_one_line
returns-in_err-put_in_one_line g c =
    Writes-failed _ _ _ _ _ c.from_residual.ensures.1 (PutFailed-first _ _ _ _ c.in_err-put_in_one_line.ensures)

pub returns : goal.returns
returns g c = Writes-then _ _ _ _ _ _ c.in_ok-put_in_one_line.ensures (rw c.as_bytes.ensures.value at c.put_parts.ensures)
