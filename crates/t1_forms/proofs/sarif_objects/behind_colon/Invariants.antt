use Rattle.std.proofs.Common.{◌≡◌, length}
use Rattle.t1_forms.specs.SarifObjects.{behind_colon}
use Rattle.t1_forms.proofs.sarif_objects.behind_colon.Given as goal

abbrev pub invariant-loop-rest : goal.invariant-loop-rest
invariant-loop-rest l = behind_colon l.rest ≡ behind_colon l.line

abbrev pub decreases-loop-rest : goal.decreases-loop-rest
decreases-loop-rest l = length l.rest
