-- How the faults of a report are judged.
use Rattle.std.specs.Prelude.{List, filter, if◌then◌else◌}
use Rattle.t1_many.specs.Outcomes.{Report}
use Rattle.t1_many.specs.declared.verdict.Verdict.{Verdict}
use Rattle.t1_many.specs.declared.verdict.Verdict.TheVariants.{Skipped, Reported}
use Rattle.t1_report.specs.Faults.{FaultValue}
use Rattle.t1_rules.specs.Book.{number_of}
use Rattle.t1_rules.specs.Mask.{has}
use Rattle.t1_rules.specs.declared.mask.Mask.{Mask}

-- The faults of these rules are reported.
abbrev pub of_rules : Mask → Report → FaultValue → Verdict
of_rules rules report fault = if has rules (number_of fault.rule) then Reported else Skipped

-- The faults whose rules are reported.
abbrev pub told_faults : Mask → List FaultValue → List FaultValue
told_faults rules faults = filter (λ fault. has rules (number_of fault.rule)) faults
