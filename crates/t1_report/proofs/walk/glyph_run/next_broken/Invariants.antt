use Rattle.std.proofs.Common.{◌≡◌, ◌<◌, ◌≤◌, ◌+◌, ◌-◌, true, false}
use Rattle.t1_report.specs.Checked.{step_limit}
use Rattle.t1_report.specs.Private.Units.{IsDrawn, IsQuiet, IsRun, executed}
use Rattle.t1_report.proofs.walk.glyph_run.next_broken.Given as goal

abbrev pub invariant-loop-on : goal.invariant-loop-on
invariant-loop-on l = record {
  run : IsRun l.machine l.watches;
  drawn : IsDrawn l.machine l.drawing;
  font : executed l.machine ≡ executed l.fn.machine;
  glyph : l.machine.glyph ≡ l.fn.machine.glyph;
  quiet : IsQuiet (executed l.fn.machine) l.unit (l.fn.machine.counted + 1) (l.machine.counted + 1);
  least : l.fn.machine.counted ≤ l.machine.counted;
  near : l.on ≡ true → l.machine.counted ≤ step_limit (executed l.fn.machine);
  past : l.on ≡ false → step_limit (executed l.fn.machine) < l.machine.counted;
}

abbrev pub decreases-loop-on : goal.decreases-loop-on
decreases-loop-on l = step_limit (executed l.fn.machine) + 1 - l.machine.counted
