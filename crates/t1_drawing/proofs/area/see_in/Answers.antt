use Rattle.std.proofs.Common.{sym, ◌∙◌}
use Rattle.t1_drawing.proofs.Drawing.{area_goes_on}
use Rattle.t1_drawing.proofs.area.see_in.Goals as goal

pub returns-in-Some : goal.returns-in-Some
returns-in-Some c = λ before st short.
    area_goes_on c.in-Some.area c.see.new.self before c.args.segment c.see.ensures
    (sym c.is_drawn_close.ensures.value ∙ c.if-not-is_drawn_close.false) (c.is_drawn_close.ensures.close c.if-not-is_drawn_close.false)
    (rw c.in-Some.is at st)
