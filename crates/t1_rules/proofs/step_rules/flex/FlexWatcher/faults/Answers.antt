use Rattle.std.proofs.Common.{refl}
use Rattle.t1_rules.specs.StepRules.{flex_rules}
use Rattle.t1_rules.proofs.step_rules.flex.FlexWatcher.faults.Goals as goal

pub returns : goal.returns
unfolding flex_rules
returns c = λ before st n.
    rw (
      c.with-6.ensures n,
      c.with-5.ensures n,
      c.with-4.ensures n,
      c.with-3.ensures n,
      c.with-2.ensures n,
      c.with.ensures n,
      c.empty-2.ensures n,
      c.starts_flex.ensures,
      c.gives_flex_point.ensures,
      c.ends_flex.ensures,
      c.clears.ensures,
      c.is_move.ensures,
      c.miscounts.ensures,
      c.ends_away_from.ensures,
      c.is_setcurrentpoint.ensures,
      st.in_flex,
      st.moves,
      st.points,
      st.point,
      st.popped_twice,
      c.requires.token,
    ) refl
