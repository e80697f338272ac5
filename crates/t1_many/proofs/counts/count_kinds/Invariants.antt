use Rattle.std.proofs.Common.{◌≡◌}
use Rattle.t1_many.proofs.FoundKinds.{HaveCounted}
use Rattle.t1_many.proofs.counts.count_kinds.Given as goal
use Rattle.t1_many.specs.Counts.{kind_counts}
use Rattle.t1_report.specs.Checked.{checked}

abbrev pub invariant-loop-fault : goal.invariant-loop-fault
invariant-loop-fault l = record {
  font : l.walk.font ≡ checked l.font l.sidebearings.edition;
  waivers : l.walk.waivers ≡ l.waivers;
  have : HaveCounted l.rules (checked l.font l.sidebearings.edition) l.waivers l._fault l.walk.mark (kind_counts l.counts.entries);
}
