use Rattle.std.proofs.Common.{◌≡◌, ◌≤ℤ◌, ◌-ℤ◌, Some, ap, arith, rules, sym, ◌∙◌}
use Rattle.std.proofs.lemmas.Int.{ints}
use Rattle.t1_reasons.specs.Remedies.{fuzz_for, lesser}
use Rattle.t1_reasons.proofs.RemedyLaws.{first_is_greater}
use Rattle.t1_reasons.proofs.remedies.fuzz_of_two.Goals as goal

pub returns-else-below-above : goal.returns-else-below-above
returns-else-below-above c =
    let own = c.args.own in
    let other = c.args.other in
    let below : c.difference-below.result ≡ other.lower -ℤ own.upper = search rules in
    let above : c.difference-above.result ≡ own.lower -ℤ other.upper = search rules in
    let le : (own.lower -ℤ other.upper) ≤ℤ (other.lower -ℤ own.upper) = grind (arith, ints, c.if-below-above.false, below, above) in
    let under : c.fuzz_under-else-below-above.result ≡ lesser c.args.bound (Some (fuzz_for (other.lower -ℤ own.upper))) = search rules in
    under
    ∙ ap (λ gap. lesser c.args.bound (Some (fuzz_for gap))) (sym (first_is_greater (other.lower -ℤ own.upper) (own.lower -ℤ other.upper) le))
