use Rattle.t1_io.proofs.SinkLemmas.{PutFailed-part, Writes-failed}
use Rattle.t1_forms.proofs.commands.put_escaped.Goals as goal
use Rattle.t1_forms.specs.Private.Escapes.{byte_in}

pub returns-in_err-put_byte : goal.returns-in_err-put_byte
returns-in_err-put_byte g c =
    Writes-failed _ _ _ _ _ c.from_residual.ensures.1
    (PutFailed-part (byte_in c.args.part) c.args.text.now c.loop-byte.byte-index _ _ _ _ c.loop-byte-test.true
    c.loop-byte.invariant.wrote c.in_err-put_byte.ensures)
