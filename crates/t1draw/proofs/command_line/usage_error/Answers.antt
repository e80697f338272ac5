use Rattle.std.proofs.Common.{refl, ◌∙◌}
use Rattle.t1draw.proofs.command_line.usage_error.Goals as goal

pub returns : goal.returns
returns c = (c.in_ok-text.text, (refl, c.in_ok-text.ensures.ok ∙ c.complaint_text.ensures))
