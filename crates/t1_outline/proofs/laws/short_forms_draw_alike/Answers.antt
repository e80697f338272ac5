use Rattle.t1_outline.proofs.ShortForms.{short_forms_draw_alike, short_steps_draw_alike}
use Rattle.t1_outline.proofs.laws.short_forms_draw_alike.Goals as goal

pub returns-clause-strokes : goal.returns-clause-strokes
returns-clause-strokes c = short_forms_draw_alike

pub returns-clause-steps : goal.returns-clause-steps
returns-clause-steps c = short_steps_draw_alike
