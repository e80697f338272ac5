-- What is left of a walk, and what that cost.
use Rattle.std.specs.Prelude.{ℕ, Option, Some, None, List}
use Rattle.t1_report.specs.declared.faults.Fault.{Fault}
use Rattle.t1_report.specs.declared.marks.Mark.{Mark}
use Rattle.t1_report.specs.Faults.{fault_value}
use Rattle.t1_report.specs.Checked.{CheckedFont}
use Rattle.t1_report.specs.Walks.{mark_of, turns_at, turns_in_all}
use Rattle.t1_report.specs.Waivers.{Waiver}

-- What a call leaves: the mark of the fault, and how many steps were requested of machines.
abbrev pub mark_after : Mark → Option Fault → Mark
mark_after mark None = mark
mark_after mark (Some fault) = mark_of (fault_value fault)

abbrev pub turns_after : CheckedFont → List Waiver → ℕ → ℕ → Option Fault → ℕ
turns_after font waivers from first None = turns_in_all font waivers from first
turns_after font waivers from first (Some fault) = turns_at font waivers from first fault.unit fault.step
