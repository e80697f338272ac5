use Rattle.t1_answer.proofs.AnswerLemmas.{has_answer, one_answer}
use Rattle.t1_answer.proofs.laws.a_file_has_one_answer.Goals as goal

pub returns-clause-some : goal.returns-clause-some
returns-clause-some c = has_answer c.each_font_has_a_report.ensures

pub returns-clause-no_other : goal.returns-clause-no_other
returns-clause-no_other c = one_answer c.a_font_has_one_report.ensures
