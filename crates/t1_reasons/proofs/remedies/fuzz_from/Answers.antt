use Rattle.std.proofs.Common.{◌≡◌, ◌-ℤ◌, Some, get_or, pos, rules}
use Rattle.t1_reasons.specs.Remedies.{fuzz_for, fuzz_from, gaps_in, lesser}
use Rattle.t1_reasons.proofs.RemedyLaws.{fuzz_later}
use Rattle.t1_reasons.proofs.remedies.fuzz_from.Goals as goal

pub loop-rest-preserved : goal.loop-rest-preserved
loop-rest-preserved c =
    let rest = c.loop-rest.rest.now in
    let best : c.fuzz_under-best.result ≡ lesser c.loop-rest.best (Some (fuzz_for (get_or rest 2 (pos 0) -ℤ get_or rest 1 (pos 0)))) = search rules in
    let whole : fuzz_from c.loop-rest.best (gaps_in rest) ≡ fuzz_from c.args.bound (gaps_in c.args.numbers.now) = search rules in
    search (rules, best, fuzz_later c.loop-rest.best rest _ c.in-len4-up.len_at_least whole)
