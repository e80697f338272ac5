use Rattle.std.proofs.Common.{◌≡◌, ◌||◌, [], ◌∷◌, map, refl, ap, sym, ◌∙◌}
use Rattle.std.specs.List.{list_any}
use Rattle.t1_char.specs.StepValues.{step_view}
use Rattle.t1_drawing.specs.declared.direction.Direction.TheVariants.{Across, Upright}
use Rattle.t1_drawing.specs.Strokes.{end_of_steps, strokes_after, strokes_at, strokes_from}
use Rattle.t1_drawing.specs.Touching.{coordinate, is_stroke, sidebearing_point}
use Rattle.t1_drawing.specs.Private.Watching.{drawing_in, point_in, with_stems_from}
use Rattle.t1_drawing.proofs.Touches.{draws, end_on, point_goes_on, strokes_more, touched_by_all, watched_on}
use Rattle.t1_outline.specs.Laws.Points.{last_end}
use Rattle.t1_drawing.proofs.touching.TouchWatcher.see_stroke.Goals as goal

pub returns : goal.returns
returns c = λ before st here nothing.
    let t = step_view c.args._step.now in
    let old = c.args.self.now in
    let drew = c.draw.new.self in
    let segments = c.args.segment ∷ [] in
    let alone = sym here in
    let d = draws (drawing_in old) segments in
    let strokes : strokes_from old.end segments ≡ strokes_at before t =
    ap (λ p. strokes_from p segments) st.end ∙ ap (λ ss. strokes_from (end_of_steps before) ss) alone in
    let point : point_in drew.sidebearing ≡ sidebearing_point before = ap point_in c.draw.ensures.sidebearing ∙ st.sidebearing in
    record {
      across = watched_on Across before t drew.across.items drew.across.items
          (ap (λ e. e.across) c.draw.ensures.drawing ∙ d.across ∙ ap (λ ss. map (touched_by_all Across ss) old.across.items) strokes
          ∙ ap (λ stems. map (touched_by_all Across (strokes_at before t)) stems) st.across)
          (ap (λ set. with_stems_from (coordinate Across (sidebearing_point before)) drew.across.items set) (sym nothing.across));
      upright = watched_on Upright before t drew.upright.items drew.upright.items
          (ap (λ e. e.upright) c.draw.ensures.drawing ∙ d.upright ∙ ap (λ ss. map (touched_by_all Upright ss) old.upright.items) strokes
          ∙ ap (λ stems. map (touched_by_all Upright (strokes_at before t)) stems) st.upright)
          (ap (λ set. with_stems_from (coordinate Upright (sidebearing_point before)) drew.upright.items set) (sym nothing.upright));
      sidebearing = point ∙ sym (point_goes_on before t ∙ rw (nothing.width) refl);
      end = ap (λ e. e.end) c.draw.ensures.drawing ∙ d.end ∙ ap (λ p. last_end p segments) st.end
          ∙ ap (λ ss. last_end (end_of_steps before) ss) alone ∙ sym (end_on before t);
      has_strokes = ap (λ e. e.has_strokes) c.draw.ensures.drawing ∙ d.has_strokes
          ∙ ap (λ b. b || list_any is_stroke (strokes_from old.end segments)) st.has_strokes
          ∙ ap (λ ss. list_any is_stroke (strokes_after [] before) || list_any is_stroke ss) strokes ∙ sym (strokes_more before t);
      done = c.draw.ensures.done;
    }
