-- Why there is no report of a font.
use Rattle.std.specs.Prelude.{◌++◌, ℕ, List, codes}
use Rattle.t1_many.specs.declared.font_error.FontError.{FontError}
use Rattle.t1_many.specs.declared.font_error.FontError.TheVariants.{Refused, Unchecked}
use Rattle.t1_many.specs.declared.font_error.Obstacle.{Obstacle}
use Rattle.t1_many.specs.declared.font_error.Obstacle.TheVariants as obstacles
use Rattle.t1_names.specs.Causes.{cause_text}
use Rattle.t1_names.specs.declared.causes.Cause.{Cause}
use Rattle.t1_names.specs.declared.causes.Cause.TheVariants as causes
use Rattle.t1_run.specs.declared.failure.Failure.{Failure}
use Rattle.t1_run.specs.declared.failure.Failure.TheVariants as failures

-- That a font can't be read, or its waivers can't, for a cause.
abbrev pub unread : Cause → FontError
unread cause = Unchecked (obstacles.Unread cause)

abbrev pub waivers_unread : Cause → FontError
waivers_unread cause = Unchecked (obstacles.WaiversUnread cause)

-- Of a read that failed in an open file no cause is known.
abbrev pub error_of : Failure → FontError
error_of (failures.Refused code) = Refused code
error_of failures.Broken = unread causes.Unknown
error_of failures.Memory = Unchecked obstacles.Memory

-- Why a font isn't checked, as it is reported.
abbrev pub reason_of : Obstacle → List ℕ
reason_of obstacles.LineEnd = codes "its name has a line end"
reason_of (obstacles.Unread cause) = codes "read failed" ++ cause_text cause
reason_of (obstacles.WaiversUnread cause) = codes "read of waivers failed" ++ cause_text cause
reason_of obstacles.Memory = codes "out of memory"
