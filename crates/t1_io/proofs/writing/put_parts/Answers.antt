use Rattle.std.proofs.Common.{List, ℕ, Bor}
use Rattle.t1_io.proofs.SinkLemmas.{PutFailed-part, Writes-failed}
use Rattle.t1_io.proofs.writing.put_parts.Goals as goal

pub returns-in_err-put_all : goal.returns-in_err-put_all
returns-in_err-put_all g c =
    Writes-failed _ _ _ _ _ c.from_residual.ensures.1
    (PutFailed-part (λ (part : Bor (List ℕ)). part.now) c.args.parts.now c.loop-part.part-index _ _ _ _ c.loop-part-test.true
    c.loop-part.invariant.wrote c.in_err-put_all.ensures)
