use Rattle.std.proofs.Common.{◌≡◌, ◌||◌, [], map, ap, sym, ◌∙◌}
use Rattle.std.specs.List.{list_any}
use Rattle.t1_char.specs.StepValues.{step_view}
use Rattle.t1_drawing.specs.declared.direction.Direction.TheVariants.{Across, Upright}
use Rattle.t1_drawing.specs.Strokes.{end_of_steps, strokes_after, strokes_at, strokes_from}
use Rattle.t1_drawing.specs.Touching.{coordinate, is_stroke, sidebearing_point, stems_set}
use Rattle.t1_drawing.specs.Private.Watching.{drawing_in, point_in, point_on, with_stems_from}
use Rattle.t1_drawing.proofs.Touches.{draws, end_on, point_goes_on, strokes_more, touched_by_all, watched_on}
use Rattle.t1_outline.specs.Laws.Points.{last_end}
use Rattle.t1_drawing.proofs.touching.TouchWatcher.see.Goals as goal

pub returns : goal.returns
returns c = λ before st here.
    let t = step_view c.args.step.now in
    let old = c.args.self.now in
    let drew = c.draw_all.new.self in
    let d = draws (drawing_in old) c.args.segments.now in
    let strokes : strokes_from old.end c.args.segments.now ≡ strokes_at before t =
    ap (λ p. strokes_from p c.args.segments.now) st.end ∙ ap (λ ss. strokes_from (end_of_steps before) ss) here in
    let point : point_in drew.sidebearing ≡ sidebearing_point before = ap point_in c.draw_all.ensures.sidebearing ∙ st.sidebearing in
    record {
      across = watched_on Across before t drew.across.items c.set.new.self.across.items
          (ap (λ e. e.across) c.draw_all.ensures.drawing ∙ d.across ∙ ap (λ ss. map (touched_by_all Across ss) old.across.items) strokes
          ∙ ap (λ stems. map (touched_by_all Across (strokes_at before t)) stems) st.across)
          (c.set.ensures.across ∙ ap (λ p. with_stems_from (coordinate Across p) drew.across.items (stems_set Across t)) point);
      upright = watched_on Upright before t drew.upright.items c.set.new.self.upright.items
          (ap (λ e. e.upright) c.draw_all.ensures.drawing ∙ d.upright ∙ ap (λ ss. map (touched_by_all Upright ss) old.upright.items) strokes
          ∙ ap (λ stems. map (touched_by_all Upright (strokes_at before t)) stems) st.upright)
          (c.set.ensures.upright ∙ ap (λ p. with_stems_from (coordinate Upright p) drew.upright.items (stems_set Upright t)) point);
      sidebearing = c.after-self.ensures ∙ ap (λ p. point_on p t) (ap point_in c.set.ensures.sidebearing ∙ point) ∙ sym (point_goes_on before t);
      end = c.set.ensures.end ∙ ap (λ e. e.end) c.draw_all.ensures.drawing ∙ d.end ∙ ap (λ p. last_end p c.args.segments.now) st.end
          ∙ ap (λ ss. last_end (end_of_steps before) ss) here ∙ sym (end_on before t);
      has_strokes = c.set.ensures.has_strokes ∙ ap (λ e. e.has_strokes) c.draw_all.ensures.drawing ∙ d.has_strokes
          ∙ ap (λ b. b || list_any is_stroke (strokes_from old.end c.args.segments.now)) st.has_strokes
          ∙ ap (λ ss. list_any is_stroke (strokes_after [] before) || list_any is_stroke ss) strokes ∙ sym (strokes_more before t);
      done = let is = c.set.ensures.done c.draw_all.ensures.done in record { across = is.across; upright = is.upright };
    }
