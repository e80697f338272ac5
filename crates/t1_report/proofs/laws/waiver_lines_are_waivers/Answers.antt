use Rattle.t1_report.proofs.JoinedLines.{lines_make_the_text}
use Rattle.t1_report.proofs.WrittenWaivers.{lines_are_waivers}
use Rattle.t1_report.proofs.laws.waiver_lines_are_waivers.Goals as goal

pub returns-clause-waiver : goal.returns-clause-waiver
returns-clause-waiver c = lines_are_waivers

pub returns-clause-lines : goal.returns-clause-lines
returns-clause-lines c = lines_make_the_text
