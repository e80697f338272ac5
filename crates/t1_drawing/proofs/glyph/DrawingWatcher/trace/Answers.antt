use Rattle.std.proofs.Common.{length, sym, ap, subst, ◌∙◌, arith}
use Rattle.t1_char.specs.StepValues.{step_view}
use Rattle.t1_drawing.specs.Bounds.{CanBeDrawn}
use Rattle.t1_drawing.specs.Drawings.{traced}
use Rattle.t1_drawing.specs.Strokes.{segments_of}
use Rattle.t1_drawing.proofs.NearLaws.{drawn_segments_can_be_seen}
use Rattle.t1_drawing.proofs.glyph.DrawingWatcher.trace.Goals as goal

pub traced-requires : goal.traced-requires
traced-requires c =
    let edition = c.requires.0 in
    let box = c.requires.1.0 in
    let before = c.requires.1.1.0 in
    let ws = c.requires.1.1.1.0 in
    let st = c.requires.1.1.1.1.0 in
    let short = c.requires.1.1.1.1.1 in
    let here = c.as_slice.ensures.value ∙ c.see_drawn-seen.ensures.drawn edition box before ws st short in
    (box, (segments_of before, (st.segments, subst (CanBeDrawn (segments_of before)) (sym here) (drawn_segments_can_be_seen before (step_view c.args.step.now) short))))

pub returns-clause-traced : goal.returns-clause-traced
returns-clause-traced c = λ edition box before ws st short.
    let here = c.as_slice.ensures.value ∙ c.see_drawn-seen.ensures.drawn edition box before ws st short in
    let can = subst (CanBeDrawn (segments_of before)) (sym here) (drawn_segments_can_be_seen before (step_view c.args.step.now) short) in
    let few = ap length (c.as_slice.ensures.value) in
    c.traced.ensures box (segments_of before) st.segments can (omega (arith, few))
    ∙ ap (traced box (segments_of before)) here
