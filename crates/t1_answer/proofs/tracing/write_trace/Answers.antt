use Rattle.std.proofs.Common.{List, ℕ, ap, subst, ◌∙◌}
use Rattle.t1_io.specs.Devices.{Delivers}
use Rattle.t1_answer.specs.Traces.{trace_of}
use Rattle.t1_io.proofs.SinkLemmas.{Delivers-failed, Delivers-flush}
use Rattle.t1_answer.proofs.tracing.write_trace.Goals as goal

pub returns-in_err-write_steps : goal.returns-in_err-write_steps
returns-in_err-write_steps g c =
    subst (λ (text : List ℕ). Delivers (g.W.Sink.state c.args.sink.now) (g.W.Sink.state c.write_steps.new.sink) text c.from_residual.result)
    (ap (λ edition. trace_of edition c.start.result.font c.start.result.glyph) c.start.ensures.edition
    ∙ ap (λ font. trace_of c.args.edition font c.start.result.glyph) c.start.ensures.font
    ∙ ap (trace_of c.args.edition c.args.font.now) c.start.ensures.glyph)
    (Delivers-failed _ _ _ _ _ c.from_residual.ensures.1 c.in_err-write_steps.ensures)

pub returns : goal.returns
returns g c =
    subst (λ (text : List ℕ). Delivers (g.W.Sink.state c.args.sink.now) (g.W.Sink.state c.flush.new.self) text c.flush.result)
    (ap (λ edition. trace_of edition c.start.result.font c.start.result.glyph) c.start.ensures.edition
    ∙ ap (λ font. trace_of c.args.edition font c.start.result.glyph) c.start.ensures.font
    ∙ ap (trace_of c.args.edition c.args.font.now) c.start.ensures.glyph)
    (Delivers-flush _ _ _ _ _ c.in_ok-write_steps.ensures c.flush.ensures.flushes)
