use Rattle.std.proofs.Common.{List, subst, ℕ, ◌∙◌}
use Rattle.std.proofs.lemmas.List.{take_all}
use Rattle.t1_io.proofs.SinkLemmas.{PutFailed-part, Writes-failed, Wrote-part}
use Rattle.t1_io.specs.Devices.{Writes, Wrote}
use Rattle.t1_many.proofs.unchecked.put_in_one_line.Goals as goal
use Rattle.t1_many.specs.Unchecked.{in_one_line, shown_byte}

pub returns-in_err-put_shown : goal.returns-in_err-put_shown
returns-in_err-put_shown g c =
    subst (λ (name : List ℕ). Writes (g.W.Sink.state c.args.sink.now) (g.W.Sink.state c.put_shown.new.sink) (in_one_line name) c.from_residual.result)
    c.as_bytes-byte-items.ensures.value
    (Writes-failed _ _ _ _ _ c.from_residual.ensures.1
    (PutFailed-part shown_byte c.as_bytes-byte-items.result.now c.loop-byte.byte-index 0 _ _ _ c.loop-byte-test.true c.loop-byte.invariant
    c.in_err-put_shown.ensures))

pub loop-byte-preserved : goal.loop-byte-preserved
loop-byte-preserved g c =
    Wrote-part shown_byte c.as_bytes-byte-items.result.now c.loop-byte.byte-index 0 _ _ _ c.loop-byte-test.true c.loop-byte.invariant
    c.in_ok-put_shown.ensures

pub returns : goal.returns
returns g c =
    subst (λ (name : List ℕ). Wrote (g.W.Sink.state c.args.sink.now) (g.W.Sink.state c.loop-byte.sink) (in_one_line name))
    (take_all c.loop-byte.byte-index c.as_bytes-byte-items.result.now c.loop-byte-test.false ∙ c.as_bytes-byte-items.ensures.value)
    c.loop-byte.invariant
