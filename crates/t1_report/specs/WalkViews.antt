-- A walk, and what a call leaves of it.
use Rattle.std.specs.Prelude.{ℕ, Option, List}
use Rattle.t1_report.specs.declared.faults.Fault.{Fault}
use Rattle.t1_report.specs.declared.marks.Mark.{Mark}
use Rattle.t1_report.specs.Checked.{CheckedFont}
use Rattle.t1_report.specs.Courses.{mark_after, turns_after}
use Rattle.t1_report.specs.Waivers.{Waiver}

-- Its font and its edition, its waivers, the unit and the step that it began with, its mark, and how many steps it has
-- requested.
pub record WalkView : Type 0 where
  pub font : CheckedFont
  pub waivers : List Waiver
  pub from : ℕ
  pub first : ℕ
  pub mark : Mark
  pub turns : ℕ

abbrev pub walk_view : CheckedFont → List Waiver → ℕ → ℕ → Mark → ℕ → WalkView
walk_view font waivers from first mark turns =
    record { font = font; waivers = waivers; from = from; first = first; mark = mark; turns = turns }

-- The mark becomes that of the fault, and stays where there is none. The turns are those of the units passed, of the
-- steps up to the fault, and of the waivers that were tested.
abbrev pub walked : WalkView → Option Fault → WalkView
walked w fault =
    walk_view w.font w.waivers w.from w.first (mark_after w.mark fault)
    (turns_after w.font w.waivers w.from w.first fault)
