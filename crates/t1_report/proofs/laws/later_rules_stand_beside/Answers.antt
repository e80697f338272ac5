use Rattle.t1_report.proofs.LaterRules.{earlier_reports_have_no_later_rule, third_reports_as_the_second}
use Rattle.t1_report.proofs.NotedKeys.{earlier_reports_know_no_notes}
use Rattle.t1_report.proofs.laws.later_rules_stand_beside.Goals as goal

pub returns-clause-earlier : goal.returns-clause-earlier
returns-clause-earlier c = earlier_reports_have_no_later_rule

pub returns-clause-notes : goal.returns-clause-notes
returns-clause-notes c = earlier_reports_know_no_notes

pub returns-clause-others : goal.returns-clause-others
returns-clause-others c = third_reports_as_the_second
