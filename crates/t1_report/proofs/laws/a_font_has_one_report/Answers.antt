use Rattle.t1_report.proofs.OneReport.{no_other_report}
use Rattle.t1_report.proofs.laws.a_font_has_one_report.Goals as goal

pub returns : goal.returns
returns c = no_other_report
