use Rattle.t1_forms.proofs.SarifCounts.{all_is_told}
use Rattle.t1_forms.proofs.sarif_laws.all_is_told_in_documents.Goals as goal

pub returns : goal.returns
returns c = all_is_told
