use Rattle.std.proofs.Common.{ap, ◌∙◌}
use Rattle.t1_options.specs.Complaints.{first_not_open}
use Rattle.t1_options.proofs.checks.complaint_of_words.Goals as goal

pub returns : goal.returns
returns c = c.first_not_open.ensures ∙ ap first_not_open c.checks_of.ensures
