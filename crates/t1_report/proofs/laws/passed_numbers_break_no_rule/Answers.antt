use Rattle.t1_report.proofs.PassedNumbers.{calm_is_behind_none, calm_stand_behind, passed_break_none}
use Rattle.t1_report.proofs.laws.passed_numbers_break_no_rule.Goals as goal

pub returns-clause-rules : goal.returns-clause-rules
returns-clause-rules c = passed_break_none

pub returns-clause-calm : goal.returns-clause-calm
returns-clause-calm c = calm_is_behind_none

pub returns-clause-kept : goal.returns-clause-kept
returns-clause-kept c = calm_stand_behind
