use Rattle.std.proofs.Common.{refl}
use Rattle.t1_rules.specs.FontRules.{first_font_rules}
use Rattle.t1_rules.proofs.font_rules.ids.private_unique_id_faults.Goals as goal

pub returns : goal.returns
unfolding first_font_rules
returns c = λ n.
    rw (
      c.with-2.ensures n,
      c.with.ensures n,
      c.empty.ensures n,
      c.is_past_range.ensures,
      c.differ.ensures,
      c.value-other.ensures,
      c.value-id.ensures,
    ) refl
