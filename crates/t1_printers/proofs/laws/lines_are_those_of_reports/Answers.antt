use Rattle.t1_printers.proofs.LineTexts.{those_of_reports}
use Rattle.t1_printers.proofs.laws.lines_are_those_of_reports.Goals as goal

pub returns : goal.returns
returns c = those_of_reports
