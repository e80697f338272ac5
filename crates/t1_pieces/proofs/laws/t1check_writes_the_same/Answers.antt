use Rattle.t1_pieces.proofs.T1checkLaws.{refuses, takes, writes}
use Rattle.t1_pieces.proofs.laws.t1check_writes_the_same.Goals as goal

pub returns-clause-lines : goal.returns-clause-lines
returns-clause-lines c = writes c.a_font_has_one_report.ensures

pub returns-clause-waivers : goal.returns-clause-waivers
returns-clause-waivers c = takes

pub returns-clause-refusals : goal.returns-clause-refusals
returns-clause-refusals c = refuses
