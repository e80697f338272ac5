use Rattle.t1_report.proofs.PassedLines.{passed_lines_break_none, watchers_move_on}
use Rattle.t1_report.proofs.laws.passed_lines_break_no_rule.Goals as goal

pub returns-clause-rules : goal.returns-clause-rules
returns-clause-rules c = passed_lines_break_none

pub returns-clause-kept : goal.returns-clause-kept
returns-clause-kept c = watchers_move_on
