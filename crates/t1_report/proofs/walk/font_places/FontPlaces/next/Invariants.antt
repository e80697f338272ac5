use Rattle.std.proofs.Common.{◌≤◌, ◌+◌, ◌-◌, ◌*◌}
use Rattle.t1_report.specs.Checked.{checked}
use Rattle.t1_report.specs.Private.Units.{IsFontPlaces, IsQuiet, font_step}
use Rattle.t1_report.proofs.walk.font_places.FontPlaces.next.Given as goal
use Rattle.t1_rules.specs.Keys.{key_count}

abbrev pub invariant-loop-self : goal.invariant-loop-self
invariant-loop-self l = record {
  places : IsFontPlaces (checked l.font l.edition) l.self;
  quiet : IsQuiet (checked l.font l.edition) 0 (font_step l.fn.self) (font_step l.self);
  behind : font_step l.fn.self ≤ font_step l.self;
}

abbrev pub decreases-loop-self : goal.decreases-loop-self
decreases-loop-self l = (key_count - l.self.key) * 65537 + (65536 - l.self.index)
