use Rattle.std.proofs.Common.{◌≡◌, ◌∙◌, Some, ap, sym, rules}
use Rattle.t1_report.specs.Waivers.{text_read, waiver_of, without_return}
use Rattle.t1_report.specs.WaiverViews.{waivers_now, waiver_view}
use Rattle.t1_report.proofs.WaiverSets.{text_is, waiver_more}
use Rattle.t1_report.proofs.waivers.add_line.Goals as goal

pub returns-clause-read : goal.returns-clause-read
returns-clause-read c =
    let text : without_return c.args.line.now ≡ c.unwrap_or-text.result.now = search rules in
    let is : waiver_of c.args.edition c.unwrap_or-text.result.now ≡ Some (waiver_view c.in-Some.pair) = search rules in
    ap (text_read c.args.edition (waivers_now c.args.pairs.now.keys)) text
    ∙ text_is c.args.edition (waivers_now c.args.pairs.now.keys) c.unwrap_or-text.result.now (waiver_view c.in-Some.pair) is
    ∙ ap Some (waiver_more c.args.pairs.now.keys c.in-Some.pair ∙ ap waivers_now (sym c.in_ok-insert.ensures.keys))
