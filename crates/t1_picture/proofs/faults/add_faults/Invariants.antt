use Rattle.std.proofs.Common.{◌≡◌, ◌≤◌, ◌+◌, ◌-◌, List}
use Rattle.t1_picture.specs.Drawings.{texts_of}
use Rattle.t1_picture.specs.Private.FaultViews.{IsRunFor}
use Rattle.t1_picture.specs.Marks.{AreShownOf}
use Rattle.t1_picture.specs.Subjects.{subject_of}
use Rattle.t1_picture.proofs.FaultSteps.{HasAdded}
use Rattle.t1_picture.proofs.faults.add_faults.Given as goal
use Rattle.t1_report.specs.Checked.{checked}
use Rattle.t1_report.specs.Faults.{FaultValue}

abbrev pub invariant-loop-fault : goal.invariant-loop-fault
invariant-loop-fault l = record {
  font : l.course.font ≡ checked (subject_of l.view).font (subject_of l.view).edition;
  waivers : l.course.waivers ≡ (subject_of l.view).waivers;
  unit : l.course.unit ≡ l.view.glyph + 1;
  at : l.course.mark.unit ≡ l.view.glyph + 1;
  run : IsRunFor (subject_of l.view) l.run;
  run_before : l.run.counted ≤ l.course.mark.step - 1;
  reasons : IsRunFor (subject_of l.view) l.reasons;
  directions : IsRunFor (subject_of l.view) l.directions;
  directions_before : l.directions.counted ≤ l.course.mark.step;
  added : (faults : List FaultValue) → AreShownOf (subject_of l.view) (subject_of l.view).waivers faults
      → HasAdded (subject_of l.view) faults l._fault l.course.mark l.marks l.causes.items (texts_of l.lines.items);
}
