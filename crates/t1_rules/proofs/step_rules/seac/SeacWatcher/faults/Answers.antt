use Rattle.std.proofs.Common.{◌≡◌, true, false, sym, ◌∙◌, refl}
use Rattle.t1_char.specs.Seacs.{is_seac}
use Rattle.t1_rules.specs.StepRules.{seac_rules}
use Rattle.t1_rules.proofs.step_rules.seac.SeacWatcher.faults.Goals as goal

pub returns-then-not-is_seac : goal.returns-then-not-is_seac
unfolding seac_rules
returns-then-not-is_seac c = λ before st n.
    let other : is_seac c.args.token ≡ false = sym c.is_seac.ensures ∙ c.if-not-is_seac.true in
    c.empty.ensures n ∙ rw (c.requires.token, other) refl

pub returns : goal.returns
unfolding seac_rules
returns c = λ before st n.
    let seac : is_seac c.args.token ≡ true = sym c.is_seac.ensures ∙ c.if-not-is_seac.false in
    rw (
      c.with-3.ensures n,
      c.with-2.ensures n,
      c.with.ensures n,
      c.empty-2.ensures n,
      c.has_no_code.ensures,
      c.has_unnamed_code.ensures,
      st.outlined,
      c.requires.token,
      seac,
    ) refl
