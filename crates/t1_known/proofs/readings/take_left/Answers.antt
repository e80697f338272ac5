use Rattle.std.proofs.Common.{◌∙◌, ap}
use Rattle.t1_known.proofs.LeftRows.{taken_from}
use Rattle.t1_known.specs.Private.Fonts.{FontsLeft, left_at}
use Rattle.t1_known.proofs.readings.take_left.Goals as goal

pub returns-clause-left : goal.returns-clause-left
returns-clause-left c = λ other.
    ap (λ (left : FontsLeft). left_at left other) (c.get_mut.follows.holds _).0 ∙ taken_from c.args.font.now _ c.args.fonts.now.entries other
