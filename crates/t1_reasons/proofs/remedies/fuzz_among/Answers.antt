use Rattle.std.proofs.Common.{◌≡◌, rules}
use Rattle.t1_reasons.specs.FontReasons.{zones_in}
use Rattle.t1_reasons.specs.Remedies.{fuzz_from, gaps_across, gaps_beside}
use Rattle.t1_reasons.proofs.RemedyLaws.{across_later, edges_at}
use Rattle.t1_reasons.proofs.remedies.fuzz_among.Goals as goal

pub loop-rest-preserved : goal.loop-rest-preserved
loop-rest-preserved c =
    let rest = c.loop-rest.rest.now in
    let highs = zones_in c.args.highs.now in
    let best : c.fuzz_beside-best.result ≡ fuzz_from c.loop-rest.best (gaps_beside (edges_at rest) highs) = search rules in
    let whole : fuzz_from c.loop-rest.best (gaps_across (zones_in rest) highs) ≡ fuzz_from c.args.bound (gaps_across (zones_in c.args.lows.now) highs) = search rules in
    search (rules, best, across_later c.loop-rest.best rest highs _ c.in-len2-up.len_at_least whole)
