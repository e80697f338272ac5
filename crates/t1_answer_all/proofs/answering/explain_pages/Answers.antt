use Rattle.t1_answer_all.specs.Explaining.ExplainsPages.{given, not_given}
use Rattle.t1_answer_all.proofs.answering.explain_pages.Goals as goal

pub returns-in-Ok : goal.returns-in-Ok
returns-in-Ok g c = given _ c.in-Ok.ensures.text (rw c.as_bytes.ensures.value at c.give.ensures)

pub returns-in-Err : goal.returns-in-Err
returns-in-Err g c = not_given c.in-Err.error c.in-Err.ensures.none c.explain.ensures
