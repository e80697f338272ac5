use Rattle.std.proofs.Common.{refl}
use Rattle.t1_rules.specs.FontRules.{first_font_rules}
use Rattle.t1_rules.proofs.font_rules.encoding.encoding_faults.Goals as goal

pub returns : goal.returns
unfolding first_font_rules
returns c = λ n.
    rw (
      c.with-3.ensures n,
      c.with-2.ensures n,
      c.with.ensures n,
      c.empty.ensures n,
      c.is_no_form.ensures,
      c.encoding.ensures,
      c.bad_code.ensures,
      c.encodes_missing.ensures,
    ) refl
