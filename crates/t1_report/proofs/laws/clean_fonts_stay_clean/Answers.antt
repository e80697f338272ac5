use Rattle.t1_report.proofs.Editions.{clean_fonts_stay_clean}
use Rattle.t1_report.proofs.laws.clean_fonts_stay_clean.Goals as goal

pub returns : goal.returns
returns c = clean_fonts_stay_clean
