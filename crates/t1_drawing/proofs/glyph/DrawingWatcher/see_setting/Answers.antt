use Rattle.std.proofs.Common.{refl, sym, ◌∙◌}
use Rattle.t1_char.specs.StepValues.{step_view}
use Rattle.t1_drawing.proofs.Numbers.{moves_stay, nib_stays, segments_stay, undrawn, undrawn_is}
use Rattle.t1_outline.proofs.LoneStrokes.{unspoiled_outside}
use Rattle.t1_drawing.proofs.glyph.DrawingWatcher.see_setting.Goals as goal

pub returns-clause-stands : goal.returns-clause-stands
returns-clause-stands c = λ edition box before is.
    let t = step_view c.args.step.now in
    let old = c.args.self.now in
    let none = undrawn t is.nothing in
    record {
      nib = nib_stays before t none old.nib (unspoiled_outside before t none.start is.outside) is.stands.nib;
      segments = segments_stay before t none box old.segments is.stands.segments;
      moves = moves_stay before t none old.moves is.stands.moves;
      touches = c.see.ensures before is.stands.touches (sym (undrawn_is before t none));
    }

pub returns-clause-answer : goal.returns-clause-answer
returns-clause-answer c = λ edition box before is n.
    let t = step_view c.args.step.now in
    let none = undrawn t is.nothing in
    c.join.ensures n
    ∙ rw (
      c.see-broken.ensures.answer edition before is.watched is.short n,
      c.rules_in.ensures box before t (rw (
        c.none.ensures,
        c.ends_clockwise-ends_clockwise.ensures box before is.stands.segments,
        c.ends_untouched-ends_untouched.ensures before is.stands.touches,
        c.sets_adjacent-sets_adjacent.ensures before (c.across.ensures edition before is.watched) (c.upright.ensures edition before is.watched),
        c.sets_negative_width.ensures,
        undrawn_is before t none,
        none.move,
      ) refl) n,
    ) refl
