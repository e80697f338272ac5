use Rattle.std.proofs.Common.{◌≡◌, of_z, refl, rules, to_z}
use Rattle.std.specs.Int.{w64}
use Rattle.t1_drawing.proofs.touching.reach_between.Goals as goal

pub returns : goal.returns
returns c =
    let least : to_z w64 (of_z w64 c.args.least) ≡ c.args.least = search rules in
    let low : to_z w64 (of_z w64 c.args.low) ≡ c.args.low = search rules in
    let high : to_z w64 (of_z w64 c.args.high) ≡ c.args.high = search rules in
    let greatest : to_z w64 (of_z w64 c.args.greatest) ≡ c.args.greatest = search rules in
    let lowest : to_z w64 (of_z w64 c.min.result) ≡ c.min.result = search rules in
    let above_low : to_z w64 (of_z w64 c.above.result) ≡ c.above.result = search rules in
    let below_low : to_z w64 (of_z w64 c.below.result) ≡ c.below.result = search rules in
    let above_high : to_z w64 (of_z w64 c.above-2.result) ≡ c.above-2.result = search rules in
    let below_high : to_z w64 (of_z w64 c.below-2.result) ≡ c.below-2.result = search rules in
    let highest : to_z w64 (of_z w64 c.max.result) ≡ c.max.result = search rules in
    rw (
      lowest,
      above_low,
      below_high,
      highest,
      c.min.ensures.value,
      c.max.ensures.value,
      below_low,
      above_high,
      c.below.ensures,
      c.above.ensures,
      c.below-2.ensures,
      c.above-2.ensures,
      least,
      low,
      high,
      greatest,
    ) refl
