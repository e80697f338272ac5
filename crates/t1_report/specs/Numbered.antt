-- Faults by their numbers in the report.
use Rattle.std.specs.Prelude.{◌≡◌, ℕ, zero, suc, List, Option, None, slice_get}
use Rattle.t1_report.specs.Checked.{CheckedFont}
use Rattle.t1_report.specs.Faults.{FaultValue}
use Rattle.t1_report.specs.Reports.{IsReport}
use Rattle.t1_report.specs.Waivers.{Waiver}

-- The fault of a number, which counts from 1.
abbrev pub numbered : List FaultValue → ℕ → Option FaultValue
numbered faults zero = None
numbered faults (suc place) = slice_get faults place

-- It is that of the font's report, if the report has one of this number.
pub record IsNumbered (font : CheckedFont) (waivers : List Waiver) (number : ℕ) (found : Option FaultValue) : Type 0 where
  pub faults : List FaultValue
  pub reported : IsReport font waivers faults
  pub is : found ≡ numbered faults number
