use Rattle.t1_report.proofs.LaterRules.{first_three_report_no_latest_rule, fourth_reports_as_the_third}
use Rattle.t1_report.proofs.laws.latest_rules_stand_beside.Goals as goal

pub returns-clause-first_three : goal.returns-clause-first_three
returns-clause-first_three c = first_three_report_no_latest_rule

pub returns-clause-others : goal.returns-clause-others
returns-clause-others c = fourth_reports_as_the_third
