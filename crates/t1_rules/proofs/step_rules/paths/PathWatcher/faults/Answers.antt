use Rattle.std.proofs.Common.{refl}
use Rattle.t1_rules.specs.StepRules.{path_rules}
use Rattle.t1_rules.proofs.step_rules.paths.PathWatcher.faults.Goals as goal

pub returns : goal.returns
unfolding path_rules
returns c = λ before st n.
    rw (
      c.with-5.ensures n,
      c.with-4.ensures n,
      c.with-3.ensures n,
      c.with-2.ensures n,
      c.with.ensures n,
      c.empty.ensures n,
      c.clears.ensures,
      c.sets_width-2.ensures,
      c.sets_width.ensures,
      c.draws.ensures,
      c.moves.ensures,
      c.is_finishing.ensures,
      c.ends_in_glyph.ensures,
      c.closes.ensures,
      st.begun,
      st.in_flex,
      st.moved,
      st.drawn,
      c.requires.token,
    ) refl
