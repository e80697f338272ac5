use Rattle.std.proofs.Common.{◌≡◌, [], ◌∷◌, ◌++◌, refl, sym, ap, subst, ◌∙◌}
use Rattle.t1_char.specs.StepValues.{step_view}
use Rattle.t1_drawing.specs.Bounds.{CanBeDrawn}
use Rattle.t1_drawing.specs.Drawings.{faults_in}
use Rattle.t1_drawing.specs.Strokes.{segments_of}
use Rattle.t1_drawing.specs.Private.Standing.{SegmentsStandFor}
use Rattle.t1_drawing.proofs.NearLaws.{drawn_segments_can_be_seen, steps_add_what_they_draw}
use Rattle.t1_drawing.proofs.Spoiled.{spoils_by_steps}
use Rattle.t1_drawing.proofs.glyph.DrawingWatcher.see_drawn.Goals as goal
use Rattle.t1_outline.specs.Nibs.{IsAround}
use Rattle.t1_outline.specs.Outlines.{drawn}

pub see-segments-requires : goal.see-segments-requires
see-segments-requires c =
    let edition = c.requires.0 in
    let before = c.requires.1.1.0 in
    let ws = c.requires.1.1.1.0 in
    let st = c.requires.1.1.1.1.0 in
    let short = c.requires.1.1.1.1.1 in
    let t = step_view c.args.step.now in
    let here = c.as_slice.ensures.value ∙ c.draw-drawn.ensures.drawn before st.nib (record {
      start = c.point-start.ensures.value edition before ws;
      end = c.point.ensures.value edition (before ++ t ∷ []) (c.see-broken.ensures.stands edition before ws short);
      inside = c.is_in_flex-is_in_flex.ensures edition before ws;
      spoils = c.spoils_flex.ensures ∙ spoils_by_steps edition before t c.see-broken.result (c.see-broken.ensures.answer edition before ws short);
    }) in
    let can = subst (CanBeDrawn (segments_of before)) (sym here) (drawn_segments_can_be_seen before t short) in
    (c.requires.1.0, (segments_of before, (st.segments, can)))

pub returns-clause-stands : goal.returns-clause-stands
returns-clause-stands c = λ edition box before ws st short.
    let t = step_view c.args.step.now in
    let inside = c.is_in_flex-is_in_flex.ensures edition before ws in
    let around : IsAround before t (record { start = c.point-start.result; end = c.point.result; is_in_flex = c.is_in_flex-is_in_flex.result; spoils_flex = c.spoils_flex.result }) = record {
      start = c.point-start.ensures.value edition before ws;
      end = c.point.ensures.value edition (before ++ t ∷ []) (c.see-broken.ensures.stands edition before ws short);
      inside = inside;
      spoils = c.spoils_flex.ensures ∙ spoils_by_steps edition before t c.see-broken.result (c.see-broken.ensures.answer edition before ws short);
    } in
    let drawing = c.draw-drawn.ensures.drawn before st.nib around in
    let here = c.as_slice.ensures.value ∙ drawing in
    let can = subst (CanBeDrawn (segments_of before)) (sym here) (drawn_segments_can_be_seen before t short) in
    record {
      nib = c.draw-drawn.ensures.stands before st.nib around;
      segments = subst (λ ss. SegmentsStandFor box c.see-segments.new.self ss) (ap (λ ss. segments_of before ++ ss) here ∙ sym (steps_add_what_they_draw before t))
          (c.see-segments.ensures.stands box (segments_of before) st.segments can);
      moves = c.see-moves_again.ensures.stands before st.moves inside;
      touches = c.see.ensures before st.touches (c.as_slice-2.ensures.value ∙ drawing);
    }

pub returns-clause-answer : goal.returns-clause-answer
returns-clause-answer c = λ edition box before ws st short n.
    let t = step_view c.args.step.now in
    let inside = c.is_in_flex-is_in_flex.ensures edition before ws in
    let here = c.as_slice.ensures.value ∙ c.draw-drawn.ensures.drawn before st.nib (record {
      start = c.point-start.ensures.value edition before ws;
      end = c.point.ensures.value edition (before ++ t ∷ []) (c.see-broken.ensures.stands edition before ws short);
      inside = inside;
      spoils = c.spoils_flex.ensures ∙ spoils_by_steps edition before t c.see-broken.result (c.see-broken.ensures.answer edition before ws short);
    }) in
    let can = subst (CanBeDrawn (segments_of before)) (sym here) (drawn_segments_can_be_seen before t short) in
    let segments : c.see-segments.result ≡ faults_in box (segments_of before) (drawn before t) =
    c.see-segments.ensures.faults box (segments_of before) st.segments can ∙ ap (λ ss. faults_in box (segments_of before) ss) here in
    c.join.ensures n
    ∙ rw (
      c.see-broken.ensures.answer edition before ws short n,
      c.rules_in-own.ensures box before t (rw (
        segments,
        c.ends_clockwise-ends_clockwise.ensures box before st.segments,
        c.see-moves_again.ensures.answer before st.moves inside,
        c.ends_untouched-ends_untouched.ensures before st.touches,
        c.sets_adjacent-sets_adjacent.ensures before (c.across.ensures edition before ws) (c.upright.ensures edition before ws),
        c.sets_negative_width.ensures,
      ) refl) n,
    ) refl

pub returns-clause-drawn : goal.returns-clause-drawn
returns-clause-drawn c = λ edition box before ws st short.
    let t = step_view c.args.step.now in
    c.draw-drawn.ensures.drawn before st.nib (record {
      start = c.point-start.ensures.value edition before ws;
      end = c.point.ensures.value edition (before ++ t ∷ []) (c.see-broken.ensures.stands edition before ws short);
      inside = c.is_in_flex-is_in_flex.ensures edition before ws;
      spoils = c.spoils_flex.ensures ∙ spoils_by_steps edition before t c.see-broken.result (c.see-broken.ensures.answer edition before ws short);
    })
