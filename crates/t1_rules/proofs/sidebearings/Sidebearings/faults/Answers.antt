use Rattle.std.proofs.Common.{refl}
use Rattle.t1_rules.specs.StepRules.{component_rules}
use Rattle.t1_rules.proofs.sidebearings.Sidebearings.faults.Goals as goal

pub returns : goal.returns
unfolding component_rules
returns c = λ before n.
    rw (
      c.with-4.ensures n,
      c.with-3.ensures n,
      c.with-2.ensures n,
      c.with.ensures n,
      c.empty.ensures n,
      c.lacks_component.ensures,
      c.nests.ensures,
      c.differs_in_sidebearing.ensures,
      c.lacks_sidebearing.ensures,
    ) refl
