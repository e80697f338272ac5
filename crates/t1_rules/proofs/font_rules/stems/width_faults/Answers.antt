use Rattle.std.proofs.Common.{refl}
use Rattle.t1_rules.proofs.font_rules.stems.width_faults.Goals as goal

pub returns : goal.returns
returns c = λ n.
    rw (
      c.with-2.ensures n,
      c.with.ensures n,
      c.empty.ensures n,
      c.is_of_another_kind.ensures,
      c.is_not_one_width.ensures,
      c.value-value.ensures,
    ) refl
