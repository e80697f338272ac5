use Rattle.std.proofs.Common.{◌≡◌, ◌∙◌, Some, ap, rules, slice_get, subst}
use Rattle.t1_io.specs.Devices.{Writes}
use Rattle.t1_io.proofs.SinkLemmas.{PutFailed-first, PutFailed-second, Writes-failed, Writes-then}
use Rattle.t1_report.specs.Lines.{waiver_text}
use Rattle.t1_report.specs.WaiverViews.{waiver_view}
use Rattle.t1_report.proofs.lines.write_waiver_place.Goals as goal

pub returns-in_err-put_all : goal.returns-in_err-put_all
returns-in_err-put_all g c =
    let is : Some (waiver_view (c.in-Some.name, c.in-Some.rule)) ≡ slice_get c.args.waivers.now c.args.number = search rules in
    subst (λ text. Writes (g.W.Sink.state c.args.sink.now) (g.W.Sink.state c.put_all.new.sink) text c.from_residual.result) (ap waiver_text is)
    (Writes-failed _ _ _ _ _ c.from_residual.ensures.1 (PutFailed-first _ _ _ _ c.in_err-put_all.ensures))

pub returns-in_err-put_all-2 : goal.returns-in_err-put_all-2
returns-in_err-put_all-2 g c =
    let is : Some (waiver_view (c.in-Some.name, c.in-Some.rule)) ≡ slice_get c.args.waivers.now c.args.number = search rules in
    subst (λ text. Writes (g.W.Sink.state c.args.sink.now) (g.W.Sink.state c.put_all-2.new.sink) text
    c.from_residual-in_err-put_all-2.result) (ap waiver_text is)
    (Writes-failed _ _ _ _ _ c.from_residual-in_err-put_all-2.ensures.1
    (PutFailed-second _ _ _ _ _ c.in_ok-put_all.ensures (PutFailed-first _ _ _ _ c.in_err-put_all-2.ensures)))

pub returns : goal.returns
returns g c =
    let is : Some (waiver_view (c.in-Some.name, c.in-Some.rule)) ≡ slice_get c.args.waivers.now c.args.number = search rules in
    subst (λ text. Writes (g.W.Sink.state c.args.sink.now) (g.W.Sink.state c.put_parts.new.sink) text c.put_parts.result) (ap waiver_text is)
    (Writes-then _ _ _ _ _ _ c.in_ok-put_all.ensures
    (Writes-then _ _ _ _ _ _ c.in_ok-put_all-2.ensures (rw (c.as_bytes.ensures.value ∙ c.rule_code.ensures) at c.put_parts.ensures)))
