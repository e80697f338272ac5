use Rattle.std.proofs.Common.{◌≡◌, ◌-ℤ◌, of_z, rules, to_z}
use Rattle.std.specs.Int.{w128}
use Rattle.t1_reason_texts.specs.ZoneTexts.{zones_text}
use Rattle.t1_reason_texts.proofs.zone_texts.ZonesTextDisplay.fmt.Goals as goal

pub returns-clause-writes : goal.returns-clause-writes
unfolding zones_text
returns-clause-writes g c =
    let below : to_z w128 (of_z w128 c.difference.result) ≡ c.args.self.now.1.lower -ℤ c.args.self.now.0.upper = search rules in
    let above : to_z w128 (of_z w128 c.difference-2.result) ≡ c.args.self.now.0.lower -ℤ c.args.self.now.1.upper = search rules in
    rw (below, above) at c.write.ensures.writes
