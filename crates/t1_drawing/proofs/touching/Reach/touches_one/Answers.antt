use Rattle.std.proofs.Common.{◌≡◌, of_z, refl, rules, to_z}
use Rattle.std.specs.Int.{w64}
use Rattle.t1_drawing.proofs.touching.Reach.touches_one.Goals as goal

pub returns : goal.returns
returns c = λ e is.
    let low : to_z w64 (of_z w64 c.args.low) ≡ c.args.low = search rules in
    let high : to_z w64 (of_z w64 c.args.high) ≡ c.args.high = search rules in
    rw (c.touches.ensures e is, c.touches-2.ensures e is, low, high) refl
