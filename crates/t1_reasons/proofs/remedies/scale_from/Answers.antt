use Rattle.std.proofs.Common.{◌≡◌, ◌-ℤ◌, get_or, pos, rules}
use Rattle.t1_reasons.specs.FontReasons.{scale_for, zones_in}
use Rattle.t1_reasons.specs.Remedies.{lesser, scale_from}
use Rattle.t1_reasons.proofs.RemedyLaws.{scale_later}
use Rattle.t1_reasons.proofs.remedies.scale_from.Goals as goal

pub loop-rest-preserved : goal.loop-rest-preserved
loop-rest-preserved c =
    let rest = c.loop-rest.rest.now in
    let best : c.scale_under-best.result ≡ lesser c.loop-rest.best (scale_for (get_or rest 1 (pos 0) -ℤ get_or rest 0 (pos 0))) = search rules in
    let whole : scale_from c.loop-rest.best (zones_in rest) ≡ scale_from c.args.bound (zones_in c.args.numbers.now) = search rules in
    search (rules, best, scale_later c.loop-rest.best rest _ c.in-len2-up.len_at_least whole)
