use Rattle.std.proofs.Common.{refl}
use Rattle.t1_answer_all.proofs.replacing.put_file.Goals as goal
use Rattle.t1_answer_all.specs.Replacing.PutsFile.{unwritten}

pub returns-in-Err : goal.returns-in-Err
returns-in-Err g c =
    unwritten _ (rw c.in-Err.is at c.replace.ensures)
    (c.tell_unwritten.result, rw (c.text.ensures.text, c.of.ensures) at c.tell_unwritten.ensures) refl
