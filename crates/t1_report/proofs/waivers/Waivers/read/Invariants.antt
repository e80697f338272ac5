use Rattle.std.proofs.Common.{◌≡◌, ◌≤◌, drop, slice_range}
use Rattle.indexmap.specs.IndexSet.{index_set_len}
use Rattle.t1_report.specs.WaiverViews.{waivers_now}
use Rattle.t1_report.specs.Waivers.{lines_from, lines_read, waivers_of}
use Rattle.t1_report.proofs.waivers.Waivers.read.Given as goal

abbrev pub invariant-loop-at : goal.invariant-loop-at
invariant-loop-at l = record {
  read : lines_read l.edition (waivers_now l.pairs.keys) (lines_from (slice_range l.text l.start l.at) (drop l.at l.text)) ≡ waivers_of l.edition l.text;
  few : index_set_len l.pairs ≤ l.start;
  behind : l.start ≤ l.at;
}
