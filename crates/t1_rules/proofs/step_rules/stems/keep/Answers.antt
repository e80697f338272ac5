use Rattle.std.proofs.Common.{◌+◌, ◌≤◌, ◌++◌, length, ap, sym, ◌∙◌, arith}
use Rattle.std.proofs.lemmas.Grind.{common_steps}
use Rattle.t1_rules.proofs.Lemmas.Before.{on_ok, take_room}
use Rattle.t1_rules.proofs.step_rules.stems.keep.Goals as goal

pub returns : goal.returns
returns g c =
    let kept = c.args.kept.now.items in
    let room = c.remaining_capacity.result in
    let few : length kept + length c.first.result.now ≤ 96 = grind (arith, common_steps, c.first.ensures, c.remaining_capacity.ensures) in
    on_ok _ _ (c.try_extend_from_slice-fits.ensures.variant.1 few) c.try_extend_from_slice-fits.ensures.ok
    ∙ ap (λ stems. kept ++ stems) c.first.ensures
    ∙ sym (take_room 96 room kept c.args.stems.now c.remaining_capacity.ensures)
