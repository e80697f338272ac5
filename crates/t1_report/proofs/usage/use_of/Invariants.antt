use Rattle.std.proofs.Common.{◌≡◌, ℕ, ◌+◌, ◌-◌, ◌≤◌, false}
use Rattle.t1_rules.specs.Book.{number_of}
use Rattle.t1_report.specs.Checked.{checked}
use Rattle.t1_report.specs.Reports.{is_broken}
use Rattle.t1_report.specs.Private.Units.{IsDrawn, IsRun, executed}
use Rattle.t1_report.proofs.usage.use_of.Given as goal

abbrev pub invariant-loop-found : goal.invariant-loop-found
invariant-loop-found l = record {
  run : IsRun l.run.machine l.run.watches;
  drawn : IsDrawn l.run.machine l.run.drawing;
  font : executed l.run.machine ≡ checked l.font l.sidebearings.edition;
  glyph : l.run.machine.glyph ≡ l.glyph;
  quiet : (s : ℕ) → s ≤ l.run.machine.counted → is_broken (checked l.font l.sidebearings.edition) (l.glyph + 1) s (number_of l.rule) ≡ false;
}

abbrev pub decreases-loop-found : goal.decreases-loop-found
decreases-loop-found l = 1000001 - l.run.machine.counted
