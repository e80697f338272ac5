use Rattle.std.proofs.Common.{◌≡◌, ◌+◌, ◌++◌, ◌∷◌, [], length, length-append, sym, ◌∙◌}
use Rattle.t1_char.specs.StepValues.{step_view}
use Rattle.t1_reasons.proofs.Backgrounds.{background_goes_on}
use Rattle.t1_reasons.proofs.steps_before.StepsBefore.see.Goals as goal

pub returns : goal.returns
returns c = λ edition before st short.
    let t = step_view c.args.step.now in
    let flex = c.see-flex.ensures.stands edition before st.flex short in
    let hints = c.see.ensures before st.hints short in
    let more : length (before ++ t ∷ []) ≡ length before + 1 = length-append before (t ∷ []) in
    record {
      edition_is = st.edition_is;
      hints = hints;
      flex = flex;
      background = c.after-self.ensures
          ∙ rw (st.background, c.is_in_flex-in_flex.ensures before st.flex, hints.seen, more, c.point.ensures.value (before ++ t ∷ []) flex)
          (sym (background_goes_on before t));
    }
