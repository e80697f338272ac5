use Rattle.t1_picture.proofs.OnePicture.{has_picture, no_other_picture}
use Rattle.t1_picture.proofs.laws.a_subject_has_one_picture.Goals as goal

pub returns-clause-some : goal.returns-clause-some
returns-clause-some c = has_picture c.faults_of_a_unit_are_the_reports.ensures.some

pub returns-clause-no_other : goal.returns-clause-no_other
returns-clause-no_other c = no_other_picture
