use Rattle.std.proofs.Common.{◌≡◌, ◌+◌, List, ℕ, sym, subst, ◌∙◌}
use Rattle.t1_io.specs.Devices.{Wrote, Writes}
use Rattle.t1_io.proofs.SinkLemmas.{Writes-then, Writes-failed}
use Rattle.t1_char.specs.Editions.{limit_of}
use Rattle.t1_char.specs.Steps.{steps_of}
use Rattle.t1_char.specs.StepValues.{step_value}
use Rattle.t1_char.proofs.TurnsTaken.{IsStepped, machine_stepped, machine_counted, fewer_left}
use Rattle.t1_answer.proofs.TraceLemmas.{lines_to, step_failed, wrote_step, trace_ended, trace_past}
use Rattle.t1_answer.proofs.tracing.write_steps.Goals as goal

pub loop-step-smaller : goal.loop-step-smaller
loop-step-smaller g c =
    let steps = steps_of c.args.machine.font c.args.machine.glyph in
    let one_more : IsStepped (limit_of c.args.machine.edition) steps c.loop-step.machine.counted (step_value c.in-Step.step.now) =
    machine_stepped c.args.machine.edition c.loop-step.machine c.args.machine.font c.args.machine.glyph (step_value c.in-Step.step.now)
    c.loop-step.invariant.same c.in-Step.ensures.turn in
    fewer_left (limit_of c.args.machine.edition) steps c.loop-step.machine.counted c.step.follows.lender-at-none.counted
    (machine_counted c.args.machine.edition c.loop-step.machine c.args.machine.font c.args.machine.glyph (step_value c.in-Step.step.now)
    c.step.follows.lender-at-none.counted c.loop-step.invariant.same one_more c.step.follows.holds-at-none.0)
    one_more.within

pub loop-step-preserved : goal.loop-step-preserved
loop-step-preserved g c =
    let steps = steps_of c.args.machine.font c.args.machine.glyph in
    let one_more : IsStepped (limit_of c.args.machine.edition) steps c.loop-step.machine.counted (step_value c.in-Step.step.now) =
    machine_stepped c.args.machine.edition c.loop-step.machine c.args.machine.font c.args.machine.glyph (step_value c.in-Step.step.now)
    c.loop-step.invariant.same c.in-Step.ensures.turn in
    let counted : c.step.follows.lender-at-none.counted ≡ c.loop-step.machine.counted + 1 =
    machine_counted c.args.machine.edition c.loop-step.machine c.args.machine.font c.args.machine.glyph (step_value c.in-Step.step.now)
    c.step.follows.lender-at-none.counted c.loop-step.invariant.same one_more c.step.follows.holds-at-none.0 in
    record {
      same = record {
        edition_is = c.step.follows.holds-at-none.3 ∙ c.loop-step.invariant.same.edition_is;
        font_is = c.step.follows.holds-at-none.1 ∙ c.loop-step.invariant.same.font_is;
        glyph_is = c.step.follows.holds-at-none.2 ∙ c.loop-step.invariant.same.glyph_is;
      };
      wrote = subst (λ n. Wrote (g.W.Sink.state c.args.sink.now) (g.W.Sink.state c.write_step.new.sink) (lines_to (limit_of c.args.machine.edition) steps n))
          (sym counted)
          (wrote_step (limit_of c.args.machine.edition) steps c.loop-step.machine.counted (step_value c.in-Step.step.now) _ _ _ one_more
          c.loop-step.invariant.wrote c.in_ok-write_step-in-Step.ensures);
    }

pub returns-in_err-write_step-in-Step : goal.returns-in_err-write_step-in-Step
returns-in_err-write_step-in-Step g c =
    let step = step_value c.in-Step.step.now in
    Writes-failed _ _ _ _ _ c.from_residual.ensures.1
    (step_failed (limit_of c.args.machine.edition) c.args.machine.font c.args.machine.glyph c.loop-step.machine.counted step _ _ _
    (machine_stepped c.args.machine.edition c.loop-step.machine c.args.machine.font c.args.machine.glyph step c.loop-step.invariant.same c.in-Step.ensures.turn)
    c.loop-step.invariant.wrote c.in_err-write_step-in-Step.ensures)

pub returns-in-Ended : goal.returns-in-Ended
returns-in-Ended g c =
    subst (λ (text : List ℕ). Wrote (g.W.Sink.state c.args.sink.now) (g.W.Sink.state c.loop-step.sink) text)
    (sym (trace_ended c.args.machine.edition c.loop-step.machine c.args.machine.font c.args.machine.glyph c.loop-step.invariant.same c.in-Ended.ensures.turn))
    c.loop-step.invariant.wrote

pub returns-in-Limit : goal.returns-in-Limit
returns-in-Limit g c =
    subst (λ (text : List ℕ). Writes (g.W.Sink.state c.args.sink.now) (g.W.Sink.state c.put_all.new.sink) text c.put_all.result)
    (sym (trace_past c.args.machine.edition c.loop-step.machine c.args.machine.font c.args.machine.glyph _ c.loop-step.invariant.same c.in-Limit.ensures.turn))
    (Writes-then _ _ _ _ _ _ c.loop-step.invariant.wrote c.put_all.ensures)
