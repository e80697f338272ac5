use Rattle.std.proofs.Common.{◌≡◌, drop}
use Rattle.t1_picture.specs.CauseTexts.{with_causes}
use Rattle.t1_picture.proofs.cause_groups.widen_by_causes.Given as goal

abbrev pub invariant-loop-cause : goal.invariant-loop-cause
invariant-loop-cause l = with_causes l.bounds (drop l.cause-index l.causes) ≡ with_causes l.fn.bounds l.causes
