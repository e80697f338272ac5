use Rattle.t1_report.proofs.Editions.{usual_fonts_have_one_report}
use Rattle.t1_report.proofs.laws.usual_fonts_have_one_report.Goals as goal

pub returns : goal.returns
returns c = usual_fonts_have_one_report
