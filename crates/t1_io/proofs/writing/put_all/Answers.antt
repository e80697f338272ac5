use Rattle.std.proofs.Common.{ℕ, arith}
use Rattle.std.proofs.lemmas.List.{length-take, length-drop}
use Rattle.t1_io.proofs.SinkLemmas.{PutFailed-behind, Writes-failed, Wrote-take}
use Rattle.t1_io.proofs.writing.put_all.Goals as goal

pub returns-in_err-at : goal.returns-in_err-at
returns-in_err-at g c =
    Writes-failed _ _ _ _ _ c.from_residual.ensures.1
    (PutFailed-behind _ _ _ c.args.bytes.now c.loop-at.at c.loop-at.invariant.wrote c.in_err-at.ensures.puts)

pub loop-at-preserved : goal.loop-at-preserved
loop-at-preserved g c = record {
  within = omega (arith, c.in_ok-at.ensures.puts.bound, length-take {A = ℕ}, length-drop {A = ℕ});
  wrote = Wrote-take _ _ _ c.args.bytes.now c.loop-at.at c.in_ok-at.field-0 c.loop-at.invariant.wrote c.in_ok-at.ensures.puts.wrote;
}
