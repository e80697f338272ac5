use Rattle.std.proofs.Common.{sym, ◌∙◌}
use Rattle.t1_char.specs.StepValues.{step_view}
use Rattle.t1_drawing.proofs.Touches.{point_goes_on}
use Rattle.t1_reasons.proofs.StemsFound.{each_end, nearest_on, set_on}
use Rattle.t1_reasons.proofs.stem_search.StemSearch.see.Goals as goal

pub returns : goal.returns
returns c = λ stem before st at ends.
    let t = step_view c.args.step.now in
    record {
      stem_is = st.stem_is;
      sidebearing = c.sidebearing_after-self.ensures ∙ rw st.sidebearing (sym (point_goes_on before t));
      step = c.or-self.ensures ∙ rw (c.then_some.ensures, c.is_set_by.ensures, st.stem_is, st.sidebearing, st.step, at) (sym (set_on stem before t));
      nearest = c.nearest_after-self.ensures
          ∙ rw (each_end c.args.self.now.stem c.args.self.now.nearest c.args.segments.now, st.stem_is, st.step, st.nearest, ends) (sym (nearest_on stem before t));
    }
