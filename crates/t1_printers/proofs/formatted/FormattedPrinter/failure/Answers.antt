use Rattle.std.proofs.Common.{◌∙◌}
use Rattle.t1_printers.proofs.formatted.FormattedPrinter.failure.Goals as goal

pub returns-in-Unchecked : goal.returns-in-Unchecked
returns-in-Unchecked g c = rw c.in-Unchecked.is (c.unchecked.ensures.reasons, rw (c.as_str.ensures.value ∙ c.text.ensures) at c.unchecked.ensures.given)
