-- The faults of a unit are those that a report has of it; and the numbers of marks count them.
use Rattle.std.specs.Prelude.{◌≡◌, ◌↔◌, ◌==◌, ℕ, ◌+◌, ◌≤◌, Bool, List, length, map, slice_get, Some}
use Rattle.t1_font.specs.Bounds.{most_glyphs}
use Rattle.t1_report.specs.declared.marks.Mark.{Mark}
use Rattle.t1_report.specs.Checked.{CheckedFont}
use Rattle.t1_report.specs.Faults.{FaultValue}
use Rattle.t1_report.specs.Laws.WaivedFaults.{bare, faults_at}
use Rattle.t1_report.specs.Reports.{AreNumbered, IsReport, Place}
use Rattle.t1_report.specs.UnitFaults.{AreOfUnit, HasNoneLaterInUnit, IsNextInUnit, first_mark_of}
use Rattle.t1_report.specs.Waivers.{Waiver, largest_waivers}
use Rattle.t1_report.specs.Walks.{IsSoFar, mark_of}

abbrev pub is_in_unit : ℕ → Place → Bool
is_in_unit unit p = p.unit == unit

-- These faults are those that a report has of a unit, in order, but for their numbers, which count from 1 in the unit.
pub record AreTheReports (faults : List FaultValue) (unit : ℕ) (given : List FaultValue) : Type 0 where
  pub same : map bare given ≡ faults_at (is_in_unit unit) faults
  pub numbered : AreNumbered 1 given

-- The faults of a unit, returned one after another, each the next one until there is none, are the report's.
abbrev pub GivenAreTheReports : Type 0
GivenAreTheReports =
    (font : CheckedFont) (waivers : List Waiver) (unit : ℕ) (faults given : List FaultValue) →
    length font.value.glyphs ≤ most_glyphs → length waivers ≤ largest_waivers →
    IsReport font waivers faults →
    AreOfUnit font waivers unit given ↔ AreTheReports faults unit given

-- So each unit has them, be they none.
abbrev pub UnitsHaveFaults : Type 0
UnitsHaveFaults =
    (font : CheckedFont) (waivers : List Waiver) (unit : ℕ) →
    length font.value.glyphs ≤ most_glyphs → length waivers ≤ largest_waivers →
    (given : List FaultValue) × AreOfUnit font waivers unit given

-- At the first mark of a unit none of them was returned so far.
abbrev pub NoneOfUnitIsGivenAtFirst : Type 0
NoneOfUnitIsGivenAtFirst =
    (font : CheckedFont) (waivers : List Waiver) (unit : ℕ) (faults given : List FaultValue) →
    IsReport font waivers faults → AreTheReports faults unit given → IsSoFar given 0 (first_mark_of unit)

-- Where k of them were returned so far, and k is the mark's number, the next one is the one after these. Then k + 1
-- were returned, and that is the number of its mark.
abbrev pub MarksOfUnitGoOnCounting : Type 0
MarksOfUnitGoOnCounting =
    (font : CheckedFont) (waivers : List Waiver) (unit : ℕ) (faults given : List FaultValue) (k : ℕ) (mark : Mark)
    (fault : FaultValue) →
    length font.value.glyphs ≤ most_glyphs → length waivers ≤ largest_waivers →
    IsReport font waivers faults → AreTheReports faults unit given → IsSoFar given k mark →
    IsNextInUnit font waivers unit mark fault → (slice_get given k ≡ Some fault) × IsSoFar given (k + 1) (mark_of fault)

-- Where none is next in the unit, all were returned.
abbrev pub AllOfUnitAreGivenAtLast : Type 0
AllOfUnitAreGivenAtLast =
    (font : CheckedFont) (waivers : List Waiver) (unit : ℕ) (faults given : List FaultValue) (k : ℕ) (mark : Mark) →
    IsReport font waivers faults → AreTheReports faults unit given → IsSoFar given k mark →
    HasNoneLaterInUnit font waivers unit mark → k ≡ length given
