use Rattle.std.proofs.Common.{◌≡◌, rules}
use Rattle.t1_reason_texts.specs.Decimals.{value_of}
use Rattle.t1_reason_texts.proofs.zone_texts.WidthTextDisplay.fmt.Goals as goal

pub returns-clause-writes : goal.returns-clause-writes
returns-clause-writes g c =
    let one : c.value-width.result ≡ value_of c.args.self.now.width = search rules in
    let two : c.value-nearest.result ≡ value_of c.args.self.now.nearest = search rules in
    rw (one, two) at c.write.ensures.writes
