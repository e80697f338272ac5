use Rattle.std.proofs.Common.{◌≡◌, ◌||◌, ◌++◌, refl, sym, ap, subst, ◌∙◌}
use Rattle.std.proofs.Math.Bool.{or-true}
use Rattle.std.specs.Option.{unwrap_or}
use Rattle.t1_char.specs.StepValues.{step_view}
use Rattle.t1_drawing.specs.Bounds.{CanBeDrawn}
use Rattle.t1_drawing.specs.Drawings.{faults_in}
use Rattle.t1_drawing.specs.Strokes.{segments_of}
use Rattle.t1_drawing.specs.Private.Plain.{is_silent}
use Rattle.t1_drawing.specs.Private.Standing.{SegmentsStandFor}
use Rattle.t1_drawing.proofs.Drawing.{faults_of_one}
use Rattle.t1_drawing.proofs.NearLaws.{drawn_segments_can_be_seen, steps_add_what_they_draw}
use Rattle.t1_drawing.proofs.Numbers.{IsPlain, plain}
use Rattle.t1_drawing.proofs.glyph.DrawingWatcher.see_stroke.Goals as goal
use Rattle.t1_outline.specs.Outlines.{drawn}

pub see_one-segments-requires : goal.see_one-segments-requires
see_one-segments-requires c =
    let before = c.requires.alone.1.1.0 in
    let is = c.requires.alone.1.1.1 in
    let can = subst (CanBeDrawn (segments_of before)) is.alone (drawn_segments_can_be_seen before (step_view c.args.step.now) is.short) in
    (c.requires.alone.1.0, (segments_of before, (is.stands.segments, can)))

pub returns-clause-stands : goal.returns-clause-stands
returns-clause-stands c = λ edition box before is.
    let t = step_view c.args.step.now in
    let can = subst (CanBeDrawn (segments_of before)) is.alone (drawn_segments_can_be_seen before t is.short) in
    record {
      nib = is.seen;
      segments = subst (λ ss. SegmentsStandFor box c.see_one-segments.new.self ss)
          (ap (λ ss. segments_of before ++ ss) (sym is.alone) ∙ sym (steps_add_what_they_draw before t))
          (c.see_one-segments.ensures.stands box (segments_of before) is.stands.segments can);
      moves = c.see-moves_again.ensures.stands before is.stands.moves (sym is.outside);
      touches = let kind = plain t (ap (λ b. is_silent t.token || b) is.line ∙ or-true (is_silent t.token)) in
          c.see_stroke.ensures before is.stands.touches is.alone (record { across = kind.across; upright = kind.upright; width = kind.width });
    }

pub returns-clause-answer : goal.returns-clause-answer
returns-clause-answer c = λ edition box before is n.
    let t = step_view c.args.step.now in
    let can = subst (CanBeDrawn (segments_of before)) is.alone (drawn_segments_can_be_seen before t is.short) in
    let segments : c.see_one-segments.result ≡ faults_in box (segments_of before) (drawn before t) =
    c.see_one-segments.ensures.faults box (segments_of before) is.stands.segments can ∙ sym (faults_of_one box (segments_of before) c.args.segment)
    ∙ ap (λ ss. faults_in box (segments_of before) ss) (sym is.alone) in
    let kind : IsPlain t = plain t (ap (λ b. is_silent t.token || b) is.line ∙ or-true (is_silent t.token)) in
    c.join.ensures n
    ∙ rw (
      c.see_stroke-broken.ensures.answer edition before is.watched is.short n,
      c.rules_in.ensures box before t (rw (segments, kind.ends, kind.move, kind.adjacent before, kind.negative) refl) n,
    ) refl

pub see_stroke-broken-requires-clause-line : goal.see_stroke-broken-requires-clause-line
see_stroke-broken-requires-clause-line c = c.requires.alone.1.1.1.line

pub see_stroke-broken-requires-clause-steps : goal.see_stroke-broken-requires-clause-steps
see_stroke-broken-requires-clause-steps c = (c.requires.alone.0, (c.requires.alone.1.1.0, (c.requires.alone.1.1.1.watched, c.requires.alone.1.1.1.short)))

pub returns-clause-watches : goal.returns-clause-watches
returns-clause-watches c = λ edition before ws short.
    c.see_stroke-broken.ensures.stands edition before ws short
    (sym (c.unwrap_or-end.ensures ∙ ap (λ end. unwrap_or end c.point.result) (c.end_of.ensures.value ∙ c.requires.end edition before ws)))
