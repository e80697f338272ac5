use Rattle.t1_forms.proofs.SarifParts.{messages, uris}
use Rattle.t1_forms.proofs.sarif_laws.results_are_read_back.Goals as goal

pub returns-clause-messages : goal.returns-clause-messages
returns-clause-messages c = messages

pub returns-clause-uris : goal.returns-clause-uris
returns-clause-uris c = uris
