use Rattle.t1_report.proofs.UnitReports.{all_of_unit_are_given_at_last, given_are_the_reports, marks_of_unit_go_on_counting, none_of_unit_is_given_at_first, units_have_faults}
use Rattle.t1_report.proofs.laws.faults_of_a_unit_are_the_reports.Goals as goal

pub returns-clause-given : goal.returns-clause-given
returns-clause-given c = given_are_the_reports

pub returns-clause-some : goal.returns-clause-some
returns-clause-some c = units_have_faults

pub returns-clause-start : goal.returns-clause-start
returns-clause-start c = none_of_unit_is_given_at_first

pub returns-clause-next : goal.returns-clause-next
returns-clause-next c = marks_of_unit_go_on_counting

pub returns-clause-end : goal.returns-clause-end
returns-clause-end c = all_of_unit_are_given_at_last
