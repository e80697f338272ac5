use Rattle.std.proofs.Common.{[], drop, string_bytes, ap, rules, ◌∙◌}
use Rattle.std.proofs.lemmas.List.{drop_all}
use Rattle.t1_io.proofs.SinkLemmas.{Writes-failed}
use Rattle.t1_io.specs.Devices.{Wrote}
use Rattle.t1_known.proofs.PutRows.{all_put, none_put, text_put, text_failed}
use Rattle.t1_known.specs.Private.Updates.{behind_text}
use Rattle.t1_many.specs.declared.readings.Reading.{Reading}
use Rattle.t1_known.proofs.updating.put_others.Goals as goal

pub loop-reading-init : goal.loop-reading-init
loop-reading-init g c = λ done is.
    let nothing : Wrote (g.W.Sink.state c.args.sink.now) (g.W.Sink.state c.args.sink.now) [] = search rules in
    none_put c.args.readings.now done (λ now. behind_text c.args.readings.now now c.args.readings.now) (g.W.Sink.state c.args.sink.now)
    c.args.left.now.entries is nothing

pub loop-reading-preserved : goal.loop-reading-preserved
loop-reading-preserved g c = λ done is.
    text_put c.args.readings.now c.loop-reading.reading-index c.reading-item.result (behind_text c.args.readings.now done c.args.readings.now) _ _ _ c.loop-reading.left.entries
    c.put_left.new.left.entries c.loop-reading-test.true (c.loop-reading.invariant done is) c.as_bytes.result.now
    (c.as_bytes.ensures.value ∙ ap (λ (r : Reading). string_bytes r.font) c.reading-item.is)
    c.in_ok-put_left.ensures.left c.in_ok-put_left.ensures.put

pub returns-in_err-put_left : goal.returns-in_err-put_left
returns-in_err-put_left g c = λ done is.
    Writes-failed _ _ _ _ _ c.from_residual.ensures.1
    (text_failed c.args.readings.now c.loop-reading.reading-index c.reading-item.result (behind_text c.args.readings.now done c.args.readings.now) _ _ _ c.loop-reading.left.entries
    c.put_left.new.left.entries c.loop-reading-test.true (c.loop-reading.invariant done is) c.as_bytes.result.now
    (c.as_bytes.ensures.value ∙ ap (λ (r : Reading). string_bytes r.font) c.reading-item.is)
    c.in_err-put_left.ensures.left c.in_err-put_left.ensures.put)

pub returns : goal.returns
returns g c = λ done is.
    let have = c.loop-reading.invariant done is in
    all_put c.args.readings.now (behind_text c.args.readings.now done c.args.readings.now) (λ now. behind_text c.args.readings.now now (drop c.loop-reading.reading-index c.args.readings.now)) _ _
    c.loop-reading.left.entries have
    (ap (behind_text c.args.readings.now have.done) (drop_all c.loop-reading.reading-index c.args.readings.now c.loop-reading-test.false))
