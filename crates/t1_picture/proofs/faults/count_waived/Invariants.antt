use Rattle.std.proofs.Common.{◌≡◌, ◌+◌, List, []}
use Rattle.t1_picture.specs.Marks.{AreShownOf}
use Rattle.t1_picture.specs.Subjects.{subject_of}
use Rattle.t1_picture.proofs.FaultSteps.{HasCounted}
use Rattle.t1_picture.proofs.faults.count_waived.Given as goal
use Rattle.t1_report.specs.Checked.{checked}
use Rattle.t1_report.specs.Faults.{FaultValue}

abbrev pub invariant-loop-fault : goal.invariant-loop-fault
invariant-loop-fault l = record {
  font : l.course.font ≡ checked (subject_of l.view).font (subject_of l.view).edition;
  waivers : l.course.waivers ≡ [];
  unit : l.course.unit ≡ l.view.glyph + 1;
  counted : (faults : List FaultValue) → AreShownOf (subject_of l.view) [] faults → HasCounted (subject_of l.view) faults l._fault l.course.mark l.waived;
}
