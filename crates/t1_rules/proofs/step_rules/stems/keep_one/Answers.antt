use Rattle.std.proofs.Common.{◌++◌, ◌∷◌, [], append-nil, length-append, sym, ◌∙◌, arith}
use Rattle.std.proofs.lemmas.List.{take_all}
use Rattle.t1_rules.proofs.Lemmas.Before.{take_room}
use Rattle.t1_rules.proofs.step_rules.stems.keep_one.Goals as goal

pub returns-then-len-lt-MOST_STEMS : goal.returns-then-len-lt-MOST_STEMS
returns-then-len-lt-MOST_STEMS c =
    let kept = c.args.kept.now.items in
    c.push.ensures.items
    ∙ sym (take_all 96 (kept ++ c.args.stem ∷ [])
    (omega (arith, length-append kept (c.args.stem ∷ []), c.len.ensures.value, c.if-len-lt-MOST_STEMS.true)))

pub returns-else-len-lt-MOST_STEMS : goal.returns-else-len-lt-MOST_STEMS
returns-else-len-lt-MOST_STEMS c =
    let kept = c.args.kept.now.items in
    sym (take_room 96 0 kept (c.args.stem ∷ []) (omega (arith, c.len.ensures.value, c.len.ensures.fits, c.if-len-lt-MOST_STEMS.false)) ∙ append-nil kept)
