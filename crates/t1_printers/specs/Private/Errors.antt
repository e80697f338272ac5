-- Why a line wasn't written, as a run over many fonts says it.
use Rattle.std.specs.Prelude.{Option, None, Some, Result, Ok, Err}
use Rattle.t1_forms.specs.declared.error.FormatError.{FormatError}
use Rattle.t1_forms.specs.declared.error.FormatError.TheVariants as errors
use Rattle.t1_many.specs.declared.policy.Lost.{Lost}
use Rattle.t1_many.specs.declared.policy.Lost.TheVariants.{Device, Memory}

abbrev pub lost_by : {X : Type 0} → Result X FormatError → Option Lost
lost_by (Ok x) = None
lost_by (Err errors.Memory) = Some Memory
lost_by (Err errors.Broken) = Some Device
