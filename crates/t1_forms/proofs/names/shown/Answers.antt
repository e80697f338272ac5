use Rattle.t1_forms.proofs.ShownNames.{shown_other, shown_valid}
use Rattle.t1_forms.proofs.names.shown.Goals as goal

pub returns-in-Ok : goal.returns-in-Ok
returns-in-Ok c = rw (shown_valid _ c.in-Ok.ensures.cases.1) (rw c.in-Ok.ensures.cases.0 at c.shown_text.ensures)

pub returns-in-Err : goal.returns-in-Err
returns-in-Err c = rw (shown_other _ c.in-Err.ensures.cases.0) c.shown_bytes.ensures
