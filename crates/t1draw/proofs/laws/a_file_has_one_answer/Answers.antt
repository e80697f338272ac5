use Rattle.t1draw.proofs.AnAnswer.{an_answer}
use Rattle.t1draw.proofs.OneAnswer.{one_answer}
use Rattle.t1draw.proofs.laws.a_file_has_one_answer.Goals as goal

pub returns-clause-some : goal.returns-clause-some
returns-clause-some c = an_answer c.a_subject_has_one_picture.ensures.some c.limits_of_fonts.ensures.fonts

pub returns-clause-no_other : goal.returns-clause-no_other
returns-clause-no_other c = one_answer c.a_subject_has_one_picture.ensures.no_other
