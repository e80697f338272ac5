use Rattle.std.proofs.Common.{◌≡◌, ◌+◌, ◌-◌, length}
use Rattle.t1_report.specs.Private.Searches.{IsSearch, aim_of, checked_in, step_of_part}
use Rattle.t1_report.proofs.Units.{IsPassed}
use Rattle.t1_report.proofs.walk.search.Search.next.Given as goal

abbrev pub invariant-loop-self : goal.invariant-loop-self
invariant-loop-self l = record {
  search : IsSearch l.self;
  aim : aim_of l.self ≡ aim_of l.fn.self;
  passed : IsPassed (checked_in l.fn.self) l.fn.self.waivers.now l.fn.self.unit (step_of_part l.fn.self.part) l.self.unit (step_of_part l.self.part);
}

abbrev pub decreases-loop-self : goal.decreases-loop-self
decreases-loop-self l = length l.self.font.now.glyphs + 2 - l.self.unit
