use Rattle.std.proofs.Common.{◌≡◌, ◌-◌, ◌∷◌, [], drop, get_or, length, pos, rules, take}
use Rattle.std.specs.List.{find}
use Rattle.t1_reasons.specs.declared.reason.Reason.TheVariants.{Width}
use Rattle.t1_reasons.specs.FontReasons.{is_apart, nearest}
use Rattle.t1_reasons.proofs.Finds.{first_widths}
use Rattle.t1_reasons.proofs.font_reasons.first_apart.Goals as goal

pub returns : goal.returns
returns c =
    let widths = c.args.widths.now in
    let snaps = c.args.snaps.now in
    let here : c.apart_from.result ≡ find is_apart (Width (get_or widths 0 (pos 0))
    (nearest (get_or widths 0 (pos 0)) (get_or snaps 0 (pos 0)) (take (length snaps - 1) (drop 1 snaps))) ∷ []) = search rules in
    first_widths widths snaps _ c.in-len1-up.len_at_least c.in-len1-up-snaps.len_at_least here
