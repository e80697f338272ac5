use Rattle.t1_forms.proofs.SarifRuns.{documents}
use Rattle.t1_forms.proofs.sarif_laws.documents_are_of_their_runs.Goals as goal

pub returns : goal.returns
returns c = documents
