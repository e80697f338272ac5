use Rattle.std.proofs.Common.{ap, ◌∙◌}
use Rattle.t1_options.specs.Complaints.{first_so}
use Rattle.t1_options.proofs.checks.complaint_of.Goals as goal

pub returns : goal.returns
returns c = c.first_so.ensures ∙ ap first_so c.checks_of.ensures
