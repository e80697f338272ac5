use Rattle.t1_picture.proofs.NamedCauses.{marks_are_of_faults}
use Rattle.t1_picture.proofs.laws.marks_are_what_reasons_name.Goals as goal

pub returns : goal.returns
returns c = marks_are_of_faults
