use Rattle.t1_report.proofs.HasReport.{has_report}
use Rattle.t1_report.proofs.laws.each_font_has_a_report.Goals as goal

pub returns : goal.returns
returns c = has_report
