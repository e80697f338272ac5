use Rattle.std.proofs.Common.{◌≡◌, [], ◌∷◌, ◌++◌, refl, sym, ap, subst, ◌∙◌}
use Rattle.t1_char.specs.StepValues.{step_view}
use Rattle.t1_drawing.specs.Bounds.{CanBeDrawn}
use Rattle.t1_drawing.specs.Drawings.{faults_in}
use Rattle.t1_drawing.specs.Strokes.{segments_of}
use Rattle.t1_drawing.specs.Private.Standing.{SegmentsStandFor}
use Rattle.t1_drawing.proofs.Drawing.{faults_of_one}
use Rattle.t1_drawing.proofs.NearLaws.{drawn_segments_can_be_seen, steps_add_what_they_draw}
use Rattle.t1_drawing.proofs.Numbers.{IsTurn, turn}
use Rattle.t1_outline.proofs.LoneStrokes.{one_of_both}
use Rattle.t1_drawing.proofs.glyph.DrawingWatcher.see_turn.Goals as goal
use Rattle.t1_outline.specs.Outlines.{drawn}

pub see_one-segments-requires : goal.see_one-segments-requires
see_one-segments-requires c =
    let edition = c.requires.0 in
    let before = c.requires.1.1.0 in
    let is = c.requires.1.1.1 in
    let t = step_view c.args.step.now in
    let end = c.point.ensures.value edition (before ++ t ∷ []) (c.see-broken.ensures.stands edition before is.watched is.short) in
    let alone = c.begin_or_close-segment.ensures.drawn before is.stands.nib is.outside is.turns end in
    let can = subst (CanBeDrawn (segments_of before)) alone (drawn_segments_can_be_seen before t is.short) in
    (c.requires.1.0, (segments_of before, (is.stands.segments, can)))

pub returns-clause-stands : goal.returns-clause-stands
returns-clause-stands c = λ edition box before is.
    let t = step_view c.args.step.now in
    let end = c.point.ensures.value edition (before ++ t ∷ []) (c.see-broken.ensures.stands edition before is.watched is.short) in
    let alone = c.begin_or_close-segment.ensures.drawn before is.stands.nib is.outside is.turns end in
    let can = subst (CanBeDrawn (segments_of before)) alone (drawn_segments_can_be_seen before t is.short) in
    let kind : IsTurn t = turn t (one_of_both before t is.turns) in
    record {
      nib = c.begin_or_close-segment.ensures.stands before is.stands.nib is.outside is.turns;
      segments = subst (λ ss. SegmentsStandFor box c.see_one-segments.new.self ss)
          (ap (λ ss. segments_of before ++ ss) (sym alone) ∙ sym (steps_add_what_they_draw before t))
          (c.see_one-segments.ensures.stands box (segments_of before) is.stands.segments can);
      moves = c.see-moves_again.ensures.stands before is.stands.moves (sym is.outside);
      touches = c.see_stroke.ensures before is.stands.touches alone (record { across = kind.across; upright = kind.upright; width = kind.width });
    }

pub returns-clause-answer : goal.returns-clause-answer
returns-clause-answer c = λ edition box before is n.
    let t = step_view c.args.step.now in
    let end = c.point.ensures.value edition (before ++ t ∷ []) (c.see-broken.ensures.stands edition before is.watched is.short) in
    let alone = c.begin_or_close-segment.ensures.drawn before is.stands.nib is.outside is.turns end in
    let can = subst (CanBeDrawn (segments_of before)) alone (drawn_segments_can_be_seen before t is.short) in
    let segments : c.see_one-segments.result ≡ faults_in box (segments_of before) (drawn before t) =
    c.see_one-segments.ensures.faults box (segments_of before) is.stands.segments can
    ∙ sym (faults_of_one box (segments_of before) c.begin_or_close-segment.result)
    ∙ ap (λ ss. faults_in box (segments_of before) ss) (sym alone) in
    let kind : IsTurn t = turn t (one_of_both before t is.turns) in
    c.join.ensures n
    ∙ rw (
      c.see-broken.ensures.answer edition before is.watched is.short n,
      c.rules_in.ensures box before t (rw (
        segments,
        c.see-moves_again.ensures.answer before is.stands.moves (sym is.outside),
        kind.ends,
        kind.adjacent before,
        kind.negative,
      ) refl) n,
    ) refl
