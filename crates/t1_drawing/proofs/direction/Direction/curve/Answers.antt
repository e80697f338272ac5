use Rattle.std.proofs.Common.{◌≡◌, ap, ◌∙◌, to_z, of_z, w64, rules}
use Rattle.t1_drawing.specs.Touching.{coordinate, widened}
use Rattle.t1_drawing.proofs.direction.Direction.curve.Goals as goal

pub returns : goal.returns
returns c =
    let one : to_z w64 (of_z w64 c.coordinate.result) ≡ c.coordinate.result = search rules in
    let two : to_z w64 (of_z w64 c.coordinate-2.result) ≡ c.coordinate-2.result = search rules in
    c.widened-2.ensures
    ∙ ap (λ z. widened c.widened.result z) (two ∙ c.coordinate-2.ensures)
    ∙ ap (λ e. widened e (coordinate c.args.self c.args.two))
    (c.widened.ensures ∙ ap (λ z. widened c.line.result z) (one ∙ c.coordinate.ensures) ∙ ap (λ e. widened e (coordinate c.args.self c.args.one)) c.line.ensures)
