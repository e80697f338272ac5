-- Documents that can't be begun.
use Rattle.std.proofs.Common.{List, ℕ, Err, Some}
use Rattle.t1_answer_all.specs.Writing.{lost_by}
use Rattle.t1_forms.specs.Writing.{WritesLine}
use Rattle.t1_forms.specs.declared.error.FormatError.{FormatError}
use Rattle.t1_forms.specs.declared.error.FormatError.TheVariants as errors
use Rattle.t1_io.specs.Devices.{SinkState}
use Rattle.t1_many.specs.Plain.{IsLinePut}

pub not_put : (X : Type 0) (a b : SinkState) (text : List ℕ) (error : FormatError) → WritesLine {X = X} a b text (Err error)
    → IsLinePut a b text (Some (lost_by error))
not_put X a b text errors.Memory same = same
not_put X a b text errors.Broken failed = failed
