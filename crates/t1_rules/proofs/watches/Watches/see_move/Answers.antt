use Rattle.t1_rules.specs.Private.Standing.{WatchesStandFor}
use Rattle.t1_rules.proofs.watches.Watches.see_move.Goals as goal

pub returns : goal.returns
unfolding WatchesStandFor
returns c = record { stands = c.see_each-broken.ensures.stands; answer = c.see_each-broken.ensures.answer }
