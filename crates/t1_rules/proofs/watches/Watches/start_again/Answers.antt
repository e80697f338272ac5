use Rattle.t1_rules.specs.Private.Standing.{WatchesStandFor}
use Rattle.t1_rules.proofs.watches.Watches.start_again.Goals as goal

pub returns : goal.returns
unfolding WatchesStandFor
returns c = (c.start-self.ensures, (c.start_again.ensures, (c.start-self-2.ensures, (c.start-self-3.ensures, (c.start-self-4.ensures, c.start-self-5.ensures)))))
