-- Why a fault is there, as it is reported with its line.
use Rattle.std.specs.Prelude.{ℕ, Bool, if◌then◌else◌, List, Option, None}
use Rattle.t1_reason_texts.specs.Texts.{shown_text}
use Rattle.t1_reasons.specs.Reported.{fault_reason}
use Rattle.t1_reasons.specs.declared.reason.Reason.{Reason}
use Rattle.t1_report.specs.Checked.{CheckedFont}
use Rattle.t1_report.specs.Faults.{FaultValue}
use Rattle.t1_report.specs.Waivers.{Waiver}

-- The reason of a fault, where reasons are reported.
abbrev pub told_reason : Bool → CheckedFont → List Waiver → FaultValue → Option Reason
told_reason reasons font waivers fault = if reasons then fault_reason font waivers fault else None

-- Its text, where it adds something.
abbrev pub told_text : Bool → CheckedFont → List Waiver → FaultValue → Option (List ℕ)
told_text reasons font waivers fault = shown_text font.value fault.rule (told_reason reasons font waivers fault)
