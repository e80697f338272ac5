use Rattle.std.proofs.Common.{refl}
use Rattle.t1_forms.proofs.SarifUnits.{counts}
use Rattle.t1_forms.proofs.sarif_laws.fingerprints_stay.Goals as goal

pub returns-clause-counts : goal.returns-clause-counts
returns-clause-counts c = counts

pub returns-clause-reasons : goal.returns-clause-reasons
returns-clause-reasons c = λ state t reason line. refl
