use Rattle.std.proofs.Common.{refl}
use Rattle.t1_answer_all.proofs.plan.plan_by.Goals as goal

pub returns-clause-plan : goal.returns-clause-plan
returns-clause-plan c =
    rw (
      c.as_slice.ensures.value,
      c.mode_by.ensures,
      c.as_slice-2.ensures.value,
      c.as_slice-3.ensures.value,
      c.tells_edition.ensures,
      c.layout_of-layout.ensures,
      c.unlisted.ensures.undecoded,
      c.unlisted.ensures.unsearched,
      c.is_quiet.ensures,
    ) refl
