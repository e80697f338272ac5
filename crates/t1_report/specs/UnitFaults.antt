-- The faults of one unit, returned one at a time.
use Rattle.std.specs.Prelude.{◌≡◌, ℕ, List, length, Option, Some, None, nat_le, if◌then◌else◌}
use Rattle.t1_report.specs.declared.faults.Fault.{Fault}
use Rattle.t1_report.specs.declared.marks.Mark.{Mark}
use Rattle.t1_report.specs.Checked.{CheckedFont}
use Rattle.t1_report.specs.Courses.{mark_after}
use Rattle.t1_report.specs.Faults.{FaultValue}
use Rattle.t1_report.specs.Reports.{IsTold, Place, path_at}
use Rattle.t1_report.specs.Waivers.{Waiver}
use Rattle.t1_report.specs.Walks.{AreLaterOf, HasNoneLaterOf, IsNextOf, turns_asked, turns_at, turns_of_unit}

-- What is reported of a unit: 0 is the font, g + 1 is glyph g, and the unit after the last glyph's is that of the
-- waivers.
abbrev pub IsToldOf : CheckedFont → List Waiver → ℕ → Place → Type 0
IsToldOf font waivers unit p = (p.unit ≡ unit) × IsTold font waivers p

-- The mark that is before all faults of a unit.
abbrev pub first_mark_of : ℕ → Mark
first_mark_of unit = record { number = 0; unit = unit; step = 0; rule = 0 }

-- The next fault of a unit, and that it has none.
abbrev pub IsNextInUnit : CheckedFont → List Waiver → ℕ → Mark → FaultValue → Type 0
IsNextInUnit font waivers unit mark fault = IsNextOf (IsToldOf font waivers unit) (path_at font) mark fault

abbrev pub HasNoneLaterInUnit : CheckedFont → List Waiver → ℕ → Mark → Type 0
HasNoneLaterInUnit font waivers unit mark = HasNoneLaterOf (IsToldOf font waivers unit) mark

-- All faults of a unit: those after its first mark, each the next one, until there is none.
abbrev pub AreOfUnit : CheckedFont → List Waiver → ℕ → List FaultValue → Type 0
AreOfUnit font waivers unit faults =
    AreLaterOf (IsToldOf font waivers unit) (path_at font) (first_mark_of unit) faults

-- How many steps are requested for a whole unit: for the font none; for a glyph its own, and none of another; for the
-- waivers' unit those of all waivers; after it none.
abbrev pub turns_of_whole : CheckedFont → List Waiver → ℕ → ℕ
turns_of_whole font waivers unit =
    if nat_le unit (length font.value.glyphs) then turns_of_unit font unit
    else turns_asked font waivers unit 0 (length waivers)

-- What a call leaves of them: those up to the fault, or those of the whole unit.
abbrev pub turns_after_in : CheckedFont → List Waiver → ℕ → Option Fault → ℕ
turns_after_in font waivers unit None = turns_of_whole font waivers unit
turns_after_in font waivers unit (Some fault) = turns_at font waivers unit 0 fault.unit fault.step

-- Their state: the font and its edition, the waivers, the unit, the mark of the last fault, and how many steps were
-- requested of machines.
pub record UnitView : Type 0 where
  pub font : CheckedFont
  pub waivers : List Waiver
  pub unit : ℕ
  pub mark : Mark
  pub turns : ℕ

abbrev pub unit_view : CheckedFont → List Waiver → ℕ → Mark → ℕ → UnitView
unit_view font waivers unit mark turns =
    record { font = font; waivers = waivers; unit = unit; mark = mark; turns = turns }

-- The mark becomes that of the fault, and stays where there is none; the turns are those up to the fault, or of the
-- whole unit.
abbrev pub unit_walked : UnitView → Option Fault → UnitView
unit_walked u fault =
    unit_view u.font u.waivers u.unit (mark_after u.mark fault) (turns_after_in u.font u.waivers u.unit fault)
