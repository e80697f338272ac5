use Rattle.std.proofs.Common.{◌∷◌, [], ◌∙◌, ap, arith, sym}
use Rattle.std.proofs.lemmas.List.{length-append}
use Rattle.t1_outline.specs.declared.segment.Segment.{Segment}
use Rattle.t1_drawing.specs.Bounds.{IsDrawnNear}
use Rattle.t1_drawing.specs.FontBoxes.{ends_outside}
use Rattle.t1_drawing.specs.Segments.{line_start_in}
use Rattle.t1_drawing.proofs.Drawing.{any_more, line_starts, starts}
use Rattle.t1_drawing.proofs.segments.SegmentWatcher.see_one.Goals as goal

pub returns-clause-stands : goal.returns-clause-stands
returns-clause-stands c = λ box before st can.
    let s : Segment = c.args.segment in
    let near : IsDrawnNear s = can.near 0 s (omega arith) in
    record {
      limits = st.limits;
      outside = rw (st.outside, c.ends_outside-ends_outside.ensures box st.limits) (sym (any_more (ends_outside box) before s));
      start = c.end_of-self.ensures.value ∙ sym (starts before s);
      line_start = c.line_start-self.ensures.value ∙ ap (λ p. line_start_in p s) st.start ∙ sym (line_starts before s);
      start_near = c.end_of-self.ensures.near near;
      line_start_near = c.line_start-self.ensures.near st.start_near;
      few = omega (arith, can.few, length-append before (s ∷ []));
      area = c.see_in.ensures before st.area (omega (arith, can.few));
    }
