use Rattle.std.proofs.Common.{◌≡◌, ◌-ℤ◌, rules}
use Rattle.t1_reason_texts.specs.declared.decimals.Unit.TheVariants.{Coordinate}
use Rattle.t1_reason_texts.specs.Decimals.{coordinate_of, in_unit}
use Rattle.t1_reason_texts.specs.StepTexts.{writing_text}
use Rattle.t1_rules.specs.StepRules.Stems.{lower, upper}
use Rattle.t1_reason_texts.proofs.step_texts.WritingTextDisplay.fmt.Goals as goal

pub returns-clause-writes : goal.returns-clause-writes
unfolding writing_text
returns-clause-writes g c =
    let stem = c.args.self.now.0 in
    let position : c.small_coordinate-position.result ≡ coordinate_of stem.position = search rules in
    let width : c.small_coordinate-width.result ≡ coordinate_of stem.width = search rules in
    let lowest : c.coordinate-lower.result ≡ coordinate_of (lower stem) = search rules in
    let high : c.extent-extent.result ≡ in_unit Coordinate (upper stem -ℤ lower stem) = search rules in
    rw (position, width, lowest, high) at c.write.ensures.writes
