use Rattle.std.proofs.Common.{◌∙◌}
use Rattle.t1_font.proofs.Reading.{font_is_read, font_is_refused}
use Rattle.t1_font.proofs.clear.read_font.Goals as goal

pub returns-in-Err-clause-stated : goal.returns-in-Err-clause-stated
returns-in-Err-clause-stated c = λ marks before start. font_is_refused marks before _ _ _ (c.into_font-font.ensures ∙ start) c.in-Err.ensures

pub returns-in-Ok-clause-stated : goal.returns-in-Ok-clause-stated
returns-in-Ok-clause-stated c = λ marks before start. font_is_read marks before _ _ _ (c.into_font-font.ensures ∙ start) c.in-Ok.ensures

pub returns-in-Err-clause-run : goal.returns-in-Err-clause-run
returns-in-Err-clause-run c = rw c.into_font-font.ensures at c.in-Err.ensures
