use Rattle.std.proofs.Common.{◌≡◌, ◌+◌, ◌++◌, ◌∷◌, [], ap, ◌∙◌, arith}
use Rattle.t1_char.specs.Steps.{NumberedStep}
use Rattle.t1_outline.specs.Parts.{composition_of}
use Rattle.t1_picture.specs.declared.parts.Stop.TheVariants.{Reached, Ended, Limit}
use Rattle.t1_picture.specs.Drawings.{texts_of}
use Rattle.t1_picture.specs.Layers.{layers_view}
use Rattle.t1_picture.specs.Private.PartViews.{part_view, so_far}
use Rattle.t1_picture.specs.Parts.{flex_note, with_step}
use Rattle.t1_picture.proofs.PartSteps.{all_drawn, all_executed, none_drawn, one_executed, steps_of_run, still_of, why_ended, why_limited}
use Rattle.t1_picture.proofs.parts.DrawnPart.draw_steps.Goals as goal

no_end : Ended ≡ Reached → ⊥
no_end is = cc

no_limit : Limit ≡ Reached → ⊥
no_limit is = cc

pub loop-step-init : goal.loop-step-init
loop-step-init c = record {
  run = c.requires.run;
  counted = c.requires.first;
  drawn = none_drawn (part_view c.args.self.now) (so_far c.args.layers.now c.args.notes.now.items) c.args.composition.now
      c.requires.composition;
}

pub loop-step-preserved : goal.loop-step-preserved
loop-step-preserved c =
    let part = part_view c.args.self.now in
    let next = c.in-Step.drawn in
    let held = c.loop-step.invariant in record {
      run = still_of part c.loop-step.run c.next.new.self held.run c.next.ensures.same;
      counted = c.in-Step.ensures.gives.counted ∙ ap (λ n. n + 1) held.counted;
      drawn = one_executed part c.loop-step.run c.next.new.self next (so_far c.args.layers.now c.args.notes.now.items)
          (so_far c.loop-step.layers c.loop-step.notes.items) (so_far c.draw_step.new.layers c.note_flex.new.notes.items) c.loop-step.composition
          c.see.new.self c.loop-step._step held.run c.next.ensures.same held.counted held.drawn c.loop-step-test.true c.in-Step.ensures.gives
          (c.in_ok-draw_step-in-Step.ensures
          ∙ ap (λ (s : NumberedStep). with_step part s.number next.leaves_open next.segments.items (layers_view c.loop-step.layers)) c.step.ensures.value)
          (c.in_ok-note_flex-in-Step.ensures
          ∙ ap (λ (s : NumberedStep). texts_of c.loop-step.notes.items ++ flex_note part.label s.number s.step next.segments.items) c.step-in-Step.ensures.value)
          (λ seen is. c.see.ensures seen is ∙ ap (λ (s : NumberedStep). composition_of (seen ++ s.step ∷ [])) c.step-in-Step-2.ensures.value);
    }

pub returns-in-Ended : goal.returns-in-Ended
returns-in-Ended c =
    let part = part_view c.args.self.now in
    let held = c.loop-step.invariant in
    all_executed part c.loop-step.run c.next.new.self (so_far c.args.layers.now c.args.notes.now.items)
    (so_far c.loop-step.layers c.loop-step.notes.items) c.loop-step.composition c.loop-step._step Ended held.run c.next.ensures.same held.counted
    held.drawn c.loop-step-test.true c.in-Ended.ensures.gives.0
    (why_ended part (rw (held.run.font, held.run.glyph, held.run.edition) at c.in-Ended.ensures.gives.1)) no_end

pub returns-in-Limit : goal.returns-in-Limit
returns-in-Limit c =
    let part = part_view c.args.self.now in
    let held = c.loop-step.invariant in
    all_executed part c.loop-step.run c.next.new.self (so_far c.args.layers.now c.args.notes.now.items)
    (so_far c.loop-step.layers c.loop-step.notes.items) c.loop-step.composition c.loop-step._step Limit held.run c.next.ensures.same held.counted
    held.drawn c.loop-step-test.true c.in-Limit.ensures.gives.0
    (why_limited part (rw (held.run.font, held.run.glyph, held.run.edition) at c.in-Limit.ensures.gives.1)) no_limit

pub returns : goal.returns
returns c =
    let part = part_view c.args.self.now in
    let held = c.loop-step.invariant in
    all_drawn part (so_far c.args.layers.now c.args.notes.now.items) (so_far c.loop-step.layers c.loop-step.notes.items) c.loop-step.composition
    c.loop-step.run c.loop-step._step held.drawn held.run (steps_of_run part c.loop-step.run held.run) held.counted
    (omega (arith, c.loop-step-test.false, c.loop-step.auto._step-end))
