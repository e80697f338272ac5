use Rattle.std.proofs.Common.{◌≡◌, true, sym, ◌∙◌, refl}
use Rattle.t1_rules.specs.StepRules.{stem_rules}
use Rattle.t1_rules.specs.StepRules.Stems.{is_stem}
use Rattle.t1_rules.proofs.step_rules.stems.StemWatcher.faults.Goals as goal

pub returns-then-is_stem : goal.returns-then-is_stem
unfolding stem_rules
returns-then-is_stem c = λ edition before st n.
    let stem : is_stem c.args.token ≡ true = sym c.is_stem.ensures ∙ c.if-is_stem.true in
    rw (
      c.with-then-is_stem-4.ensures n,
      c.with-then-is_stem-3.ensures n,
      c.with-then-is_stem-2.ensures n,
      c.with-then-is_stem.ensures n,
      c.with-late.ensures n,
      c.with.ensures n,
      c.empty.ensures n,
      c.meets.ensures,
      c.is_without_width.ensures,
      c.is_unequal.ensures,
      c.is_pop.ensures,
      c.is_callsubr.ensures,
      st.edition_is,
      st.across,
      st.upright,
      st.drawn,
      st.replaced,
      st.popped,
      c.requires.token,
      stem,
    ) refl
