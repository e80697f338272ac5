use Rattle.std.proofs.Common.{◌≡◌, FitsSigned, of_z, rules, subst, to_z}
use Rattle.std.specs.Int.{int_max, int_min, w64}
use Rattle.t1_drawing.proofs.touching.Extent.reach.Goals as goal

pub returns : goal.returns
returns c =
    let e = c.args.self in
    let start : to_z w64 (of_z w64 e.start) ≡ e.start = search rules in
    let end : to_z w64 (of_z w64 e.end) ≡ e.end = search rules in
    let least : to_z w64 (of_z w64 e.least) ≡ e.least = search rules in
    let greatest : to_z w64 (of_z w64 e.greatest) ≡ e.greatest = search rules in
    let low : c.min-low.result ≡ int_min e.start e.end = rw (start, end) at c.min-low.ensures.value in
    let high : c.max-high.result ≡ int_max e.start e.end = rw (start, end) at c.max-high.ensures.value in
    let low_fits : FitsSigned w64 c.min-low.result = search rules in
    let high_fits : FitsSigned w64 c.max-high.result = search rules in
    let low_kept : to_z w64 (of_z w64 c.min-low.result) ≡ c.min-low.result = search rules in
    let high_kept : to_z w64 (of_z w64 c.max-high.result) ≡ c.max-high.result = search rules in
    record {
      same = rw (least, greatest, low_kept, high_kept, low, high) at c.reach_between.ensures;
      low = subst (λ z. FitsSigned w64 z) low low_fits;
      high = subst (λ z. FitsSigned w64 z) high high_fits;
    }
