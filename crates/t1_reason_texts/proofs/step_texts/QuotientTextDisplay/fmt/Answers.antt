use Rattle.std.proofs.Common.{◌≡◌, rules}
use Rattle.t1_reason_texts.specs.Decimals.{coordinate_of}
use Rattle.t1_reason_texts.proofs.step_texts.QuotientTextDisplay.fmt.Goals as goal

pub returns-clause-writes : goal.returns-clause-writes
returns-clause-writes g c =
    let one : c.coordinate-dividend.result ≡ coordinate_of c.args.self.now.dividend = search rules in
    let two : c.coordinate-divisor.result ≡ coordinate_of c.args.self.now.divisor = search rules in
    rw (one, two) at c.write.ensures.writes
