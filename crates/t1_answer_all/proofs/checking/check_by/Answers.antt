use Rattle.std.proofs.Common.{refl}
use Rattle.t1_answer_all.proofs.checking.check_by.Goals as goal
use Rattle.t1_answer_all.specs.Checking.ChecksBy.{checked, no_text}

pub returns-in-Ok : goal.returns-in-Ok
returns-in-Ok g c = checked c.in-Ok.text.items c.text_of_known.new.system c.in-Ok.ensures.text (rw c.as_slice.ensures.value at c.check_known.ensures)

pub returns-in-Err : goal.returns-in-Err
returns-in-Err g c = no_text c.in-Err.error c.in-Err.ensures.none c.stopped.ensures refl
