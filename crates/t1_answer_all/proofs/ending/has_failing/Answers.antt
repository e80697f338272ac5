use Rattle.std.proofs.Common.{ap, ◌∙◌}
use Rattle.t1_answer_all.proofs.ending.has_failing.Goals as goal
use Rattle.t1_answer_all.specs.Endings.{any_failing}

pub returns : goal.returns
returns c = c.any_failing.ensures ∙ ap (any_failing c.args.failing c.args.tally.now) c.all_rules.ensures
