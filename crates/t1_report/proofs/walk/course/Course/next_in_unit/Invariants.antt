use Rattle.std.proofs.Common.{◌≡◌, ◌-◌}
use Rattle.t1_report.specs.Private.Courses.{IsCourse}
use Rattle.t1_report.specs.Private.Searches.{aim_of, step_of_part}
use Rattle.t1_report.proofs.walk.course.Course.next_in_unit.Given as goal

abbrev pub invariant-loop-fault : goal.invariant-loop-fault
invariant-loop-fault l = record {
  course : IsCourse l.self;
  aim : aim_of l.self.search ≡ aim_of l.fn.self.search;
  unit : l.self.search.unit ≡ l.fn.self.search.unit;
  mark : l.self.mark ≡ l.fn.self.mark;
}

abbrev pub decreases-loop-fault : goal.decreases-loop-fault
decreases-loop-fault l = 2000000 - step_of_part l.self.search.part
