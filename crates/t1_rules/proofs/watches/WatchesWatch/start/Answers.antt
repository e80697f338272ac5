use Rattle.t1_rules.specs.Private.Standing.{WatchesStandFor}
use Rattle.t1_rules.proofs.watches.WatchesWatch.start.Goals as goal

pub returns : goal.returns
unfolding WatchesStandFor
returns c = (c.start-3.ensures, (c.start-4.ensures, (c.start-5.ensures, (c.start-7.ensures, (c.start-8.ensures, c.start-9.ensures)))))
