use Rattle.t1_forms.proofs.OneObject.{one_line, one_object}
use Rattle.t1_forms.proofs.laws.different_tellings_have_different_objects.Goals as goal

pub returns-clause-alike : goal.returns-clause-alike
returns-clause-alike c = one_object

pub returns-clause-same : goal.returns-clause-same
returns-clause-same c = one_line
