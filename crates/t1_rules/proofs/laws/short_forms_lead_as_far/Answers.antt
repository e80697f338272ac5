use Rattle.t1_rules.proofs.Lemmas.FlexCounts.{short_forms_lead_as_far}
use Rattle.t1_rules.proofs.laws.short_forms_lead_as_far.Goals as goal

pub returns : goal.returns
returns c = short_forms_lead_as_far
