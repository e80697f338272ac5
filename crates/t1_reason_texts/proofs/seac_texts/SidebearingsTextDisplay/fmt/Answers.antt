use Rattle.std.proofs.Common.{◌≡◌, rules}
use Rattle.t1_reason_texts.specs.Decimals.{coordinate_of}
use Rattle.t1_reason_texts.proofs.seac_texts.SidebearingsTextDisplay.fmt.Goals as goal

pub returns-clause-writes : goal.returns-clause-writes
returns-clause-writes g c =
    let one : c.small_coordinate-told.result ≡ coordinate_of c.args.self.now.told = search rules in
    let two : c.small_coordinate-own.result ≡ coordinate_of c.args.self.now.own = search rules in
    rw (one, two) at c.write.ensures.writes
