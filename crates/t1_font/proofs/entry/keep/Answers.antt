use Rattle.std.proofs.Common.{[], ◌∷◌, sym, arith}
use Rattle.t1_font.proofs.Lists.{take_full}
use Rattle.t1_font.proofs.entry.keep.Goals as goal

pub returns-else-len-lt-KEPT_NUMBERS : goal.returns-else-len-lt-KEPT_NUMBERS
returns-else-len-lt-KEPT_NUMBERS c = sym (take_full 16 c.args.first.now.items (c.args.number ∷ [])
    (omega (arith, c.len.ensures.value, c.if-len-lt-KEPT_NUMBERS.false, c.requires)))
