use Rattle.std.proofs.Common.{sym, ◌∙◌, refl}
use Rattle.t1_rules.proofs.step_rules.arguments.count_faults.Goals as goal

pub returns-in-Some : goal.returns-in-Some
returns-in-Some c = λ n.
    rw (
      c.with-in-Some-2.ensures n,
      c.with-in-Some.ensures n,
      c.with.ensures n,
      c.empty.ensures n,
      c.one_is_past.ensures,
      c.from-count.ensures,
      sym c.arguments.ensures ∙ c.in-Some.is,
    ) refl
