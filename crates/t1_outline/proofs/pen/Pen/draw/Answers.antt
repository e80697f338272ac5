use Rattle.std.proofs.Common.{◌++◌, ◌∷◌, [], ◌∙◌}
use Rattle.t1_char.specs.StepValues.{step_view}
use Rattle.t1_outline.proofs.Flexes.{spoils_is}
use Rattle.t1_outline.proofs.Subpaths.{left_open}
use Rattle.t1_outline.proofs.pen.Pen.draw.Goals as goal

pub returns-clause-drawn : goal.returns-clause-drawn
returns-clause-drawn c = λ edition before st short.
    c.draw.ensures.drawn before st.nib (record {
      start = c.point-start.ensures.value before st.flex;
      end = c.point.ensures.value (before ++ step_view c.args.step.now ∷ []) (c.see-broken.ensures.stands edition before st.flex short);
      inside = c.is_in_flex-is_in_flex.ensures before st.flex;
      spoils = c.spoils_flex.ensures ∙ spoils_is c.see-broken.result before (step_view c.args.step.now) (c.see-broken.ensures.answer edition before st.flex short);
    })

pub returns-clause-leaves_open : goal.returns-clause-leaves_open
returns-clause-leaves_open c = λ edition before st short.
    c.has.ensures ∙ left_open c.see-paths.result before (step_view c.args.step.now) (c.see-paths.ensures.answer edition before st.paths short)

pub returns-clause-stands : goal.returns-clause-stands
returns-clause-stands c = λ edition before st short.
    record {
      paths = c.see-paths.ensures.stands edition before st.paths short;
      stems = c.see-stems.ensures.stands edition before st.stems short;
      flex = c.see-broken.ensures.stands edition before st.flex short;
      nib = c.draw.ensures.stands before st.nib (record {
        start = c.point-start.ensures.value before st.flex;
        end = c.point.ensures.value (before ++ step_view c.args.step.now ∷ []) (c.see-broken.ensures.stands edition before st.flex short);
        inside = c.is_in_flex-is_in_flex.ensures before st.flex;
        spoils = c.spoils_flex.ensures ∙ spoils_is c.see-broken.result before (step_view c.args.step.now) (c.see-broken.ensures.answer edition before st.flex short);
      });
    }
