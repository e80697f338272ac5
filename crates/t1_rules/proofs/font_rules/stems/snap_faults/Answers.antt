use Rattle.std.proofs.Common.{refl}
use Rattle.t1_rules.proofs.font_rules.stems.snap_faults.Goals as goal

pub returns : goal.returns
returns c = λ n.
    rw (
      c.with-4.ensures n,
      c.with-3.ensures n,
      c.with-2.ensures n,
      c.with.ensures n,
      c.empty.ensures n,
      c.is_of_another_kind.ensures,
      c.has_too_many.ensures,
      c.falls_at.ensures,
      c.is_not_among.ensures,
      c.first_in-widths.ensures,
      c.first_in-snaps.ensures,
      c.value-width.ensures,
      c.value-value.ensures,
      c.list_limit_of.ensures,
    ) refl
