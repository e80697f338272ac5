use Rattle.std.proofs.Common.{◌≡◌, of_z, refl, rules, to_z}
use Rattle.std.specs.Int.{w128}
use Rattle.t1_drawing.proofs.Drawing.{whole_area}
use Rattle.t1_drawing.proofs.area.drawn_area.Goals as goal

pub returns-in-Some : goal.returns-in-Some
returns-in-Some c = λ before st few.
    let known = rw c.in-Some.is at st in
    let value : to_z w128 (of_z w128 c.closed.result) ≡ c.closed.result = search rules in
    rw (value, c.closed.ensures, whole_area c.in-Some.area before known.1, known.0) refl
