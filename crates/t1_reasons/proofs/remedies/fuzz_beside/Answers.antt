use Rattle.std.proofs.Common.{◌≡◌, Some, rules}
use Rattle.t1_reasons.specs.FontReasons.{zones_in}
use Rattle.t1_reasons.specs.Remedies.{fuzz_for, fuzz_from, gap_between, gaps_beside, lesser}
use Rattle.t1_reasons.proofs.RemedyLaws.{beside_later, edges_at}
use Rattle.t1_reasons.proofs.remedies.fuzz_beside.Goals as goal

pub loop-rest-preserved : goal.loop-rest-preserved
loop-rest-preserved c =
    let rest = c.loop-rest.rest.now in
    let own = c.args.own in
    let best : c.fuzz_of_two-best.result ≡ lesser c.loop-rest.best (Some (fuzz_for (gap_between own (edges_at rest)))) = search rules in
    let whole : fuzz_from c.loop-rest.best (gaps_beside own (zones_in rest)) ≡ fuzz_from c.args.bound (gaps_beside own (zones_in c.args.highs.now)) = search rules in
    search (rules, best, beside_later c.loop-rest.best own rest _ c.in-len2-up.len_at_least whole)
