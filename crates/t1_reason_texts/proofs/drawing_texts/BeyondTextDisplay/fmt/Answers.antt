use Rattle.std.proofs.Common.{◌≡◌, of_z, rules, to_z}
use Rattle.std.specs.Int.{w128}
use Rattle.t1_reason_texts.specs.Decimals.{coordinate_of}
use Rattle.t1_reason_texts.proofs.drawing_texts.BeyondTextDisplay.fmt.Goals as goal

pub returns-clause-writes : goal.returns-clause-writes
returns-clause-writes g c =
    let start : c.coordinate-start.result ≡ coordinate_of c.args.self.now.start = search rules in
    let end : c.coordinate-end.result ≡ coordinate_of c.args.self.now.end = search rules in
    let place : to_z w128 (of_z w128 c.args.self.now.place) ≡ c.args.self.now.place = search rules in
    rw (start, end, place) at c.write.ensures.writes
