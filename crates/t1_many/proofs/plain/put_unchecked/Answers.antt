use Rattle.std.proofs.Common.{◌∙◌}
use Rattle.t1_many.proofs.Puts.{put_failed}
use Rattle.t1_many.proofs.plain.put_unchecked.Goals as goal

pub returns-in_err-tell_unchecked : goal.returns-in_err-tell_unchecked
returns-in_err-tell_unchecked g c =
    put_failed c.from_residual.result _ _ _ c.from_residual.ensures.1 (rw (c.as_str.ensures.value ∙ c.text.ensures) at c.in_err-tell_unchecked.ensures)

pub returns : goal.returns
returns g c = rw (c.as_str.ensures.value ∙ c.text.ensures) at c.in_ok-tell_unchecked.ensures
