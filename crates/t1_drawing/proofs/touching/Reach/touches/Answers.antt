use Rattle.std.proofs.Common.{◌≡◌, of_z, rules, to_z}
use Rattle.std.specs.Int.{w64}
use Rattle.t1_drawing.proofs.Reaches.{reach_touches}
use Rattle.t1_drawing.proofs.touching.Reach.touches.Goals as goal

pub returns : goal.returns
returns c = λ e is.
    let reach = c.args.self in
    let lowest : to_z w64 (of_z w64 reach.lowest) ≡ reach.lowest = search rules in
    let low : to_z w64 (of_z w64 reach.low) ≡ reach.low = search rules in
    let high : to_z w64 (of_z w64 reach.high) ≡ reach.high = search rules in
    let highest : to_z w64 (of_z w64 reach.highest) ≡ reach.highest = search rules in
    let edge : to_z w64 (of_z w64 c.args.edge) ≡ c.args.edge = search rules in
    rw (c.is_between.ensures, c.is_between-2.ensures, lowest, low, high, highest, edge) (reach_touches e reach c.args.edge is c.ranges.edge)
