use Rattle.t1_font.proofs.Scanning.{first_some, first_none, first_err}
use Rattle.t1_font.proofs.tokens.first.Goals as goal

pub returns-in-Ok-Some : goal.returns-in-Ok-Some
returns-in-Ok-Some c = first_some _ _ _ _ c.new-scanner.ensures.text c.new-scanner.ensures.failed c.new-scanner.ensures.place c.in-Ok-Some.token _
    c.split_at.ensures.back (rw c.in-Ok-Some.field-0-is at c.in-Ok-Some.ensures.token)

pub returns-in-Ok-None : goal.returns-in-Ok-None
returns-in-Ok-None c = first_none _ _ _ _ c.new-scanner.ensures.text c.new-scanner.ensures.failed c.new-scanner.ensures.place
    (rw c.in-Ok-None.field-0-is at c.in-Ok-None.ensures.token)

pub returns-in-Err : goal.returns-in-Err
returns-in-Err c = first_err _ _ _ _ c.new-scanner.ensures.text c.new-scanner.ensures.failed c.new-scanner.ensures.place c.in-Err.error c.in-Err.ensures.token
