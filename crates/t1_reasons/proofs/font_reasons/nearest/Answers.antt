use Rattle.std.proofs.Common.{◌≡◌, get_or, pos, rules}
use Rattle.t1_reasons.specs.FontReasons.{nearer, nearest}
use Rattle.t1_reasons.proofs.Finds.{nearest_later}
use Rattle.t1_reasons.proofs.font_reasons.nearest.Goals as goal

pub loop-rest-preserved : goal.loop-rest-preserved
loop-rest-preserved c =
    let best : c.nearer-best.result ≡ nearer c.args.width c.loop-rest.best (get_or c.loop-rest.rest.now 0 (pos 0)) = search rules in
    let same : nearest c.args.width c.loop-rest.best c.loop-rest.rest.now ≡ nearest c.args.width c.args.snap c.args.snaps.now = search rules in
    let later = nearest_later c.args.width c.loop-rest.best c.loop-rest.rest.now _ c.in-len1-up.len_at_least same in
    search (rules, best, later)
