use Rattle.std.proofs.Common.{◌≡◌}
use Rattle.t1_report.specs.Checked.{checked}
use Rattle.t1_waiving.proofs.WrittenOnce.{HaveWaived}
use Rattle.t1_waiving.proofs.writing.waivers_text.Given as goal

abbrev pub invariant-loop-fault : goal.invariant-loop-fault
invariant-loop-fault l = record {
  font : l.walk.font ≡ checked l.font l.sidebearings.edition;
  waivers : l.walk.waivers ≡ l.waivers;
  have : HaveWaived l.rules (checked l.font l.sidebearings.edition) l.waivers l._fault l.walk.mark l.written.unit l.written.rules
      l.written.text.items;
}
