use Rattle.t1_rules.proofs.Lemmas.SeacComponents.{seac_alone_has_codes}
use Rattle.t1_rules.proofs.laws.codes_are_judged_by_their_names.Goals as goal

pub returns-clause-seac : goal.returns-clause-seac
returns-clause-seac c = seac_alone_has_codes
