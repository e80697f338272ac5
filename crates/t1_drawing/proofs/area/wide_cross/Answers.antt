use Rattle.std.proofs.Common.{◌≡◌, of_z, rules, to_z}
use Rattle.std.specs.Int.{w128}
use Rattle.t1_drawing.specs.Points.{cross}
use Rattle.t1_drawing.proofs.Bounding.{wide_cross_within}
use Rattle.t1_drawing.proofs.area.wide_cross.Goals as goal

pub returns-clause-within : goal.returns-clause-within
returns-clause-within c =
    let value : to_z w128 (of_z w128 c.cross.result) ≡ cross c.args.one c.args.other = search rules in
    rw value (wide_cross_within c.args.one c.args.other c.requires.one c.requires.other)
