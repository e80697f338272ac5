use Rattle.std.proofs.Common.{◌∙◌}
use Rattle.t1_char.specs.StepValues.{step_view}
use Rattle.t1_outline.proofs.Pens.{draws, flex_run_on, subpath_on}
use Rattle.t1_outline.proofs.nib.Nib.draw.Goals as goal

pub returns-clause-drawn : goal.returns-clause-drawn
returns-clause-drawn c = λ before st is.
    let t = step_view c.args.step.now in
    let run = flex_run_on c.args.self.now.run c.see.new.self before t c.args.around st.run is
    (record { places = c.see.ensures.places; spoiled = c.see.ensures.spoiled }) in
    c.segments-segments.ensures ∙ rw (is.start, is.end, is.inside, run.spoiled, run.places, st.subpath) (draws before t)

pub returns-clause-stands : goal.returns-clause-stands
returns-clause-stands c = λ before st is.
    let t = step_view c.args.step.now in
    let run = flex_run_on c.args.self.now.run c.see.new.self before t c.args.around st.run is
    (record { places = c.see.ensures.places; spoiled = c.see.ensures.spoiled }) in
    record {
      run = run;
      subpath = subpath_on before t _ _ _ _ is.inside run.spoiled st.subpath (rw (c.makes_subpath-makes.ensures, c.closes.ensures));
    }
