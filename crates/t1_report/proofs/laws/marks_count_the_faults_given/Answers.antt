use Rattle.t1_report.proofs.LaterFaults.{are_behind_the_count, given_are_the_front, marks_go_on_counting}
use Rattle.t1_report.proofs.SoFar.{none_left_in_font, so_far_start}
use Rattle.t1_report.proofs.laws.marks_count_the_faults_given.Goals as goal

pub returns-clause-start : goal.returns-clause-start
returns-clause-start c = so_far_start

pub returns-clause-next : goal.returns-clause-next
returns-clause-next c = marks_go_on_counting

pub returns-clause-end : goal.returns-clause-end
returns-clause-end c = none_left_in_font

pub returns-clause-given : goal.returns-clause-given
returns-clause-given c = given_are_the_front

pub returns-clause-rest : goal.returns-clause-rest
returns-clause-rest c = are_behind_the_count
