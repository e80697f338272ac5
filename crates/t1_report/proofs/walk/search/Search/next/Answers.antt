use Rattle.std.proofs.Common.{◌<◌, ◌∙◌, length, sym, subst, arith, ◌+◌}
use Rattle.t1_report.proofs.Units.{next_passed, none_past, over_past}
use Rattle.t1_report.specs.Private.Searches.{Aim, checked_in, step_of_part, TellsNoneFrom}
use Rattle.t1_report.proofs.walk.search.Search.next.Goals as goal

pub loop-self-preserved : goal.loop-self-preserved
loop-self-preserved c =
    let s = c.args.self.now in
    let now = c.loop-self.self in
    let new = c.next_unit.new.self in
    record {
      search = c.next_unit.ensures.search;
      aim = c.next_unit.ensures.aim ∙ c.next_in_unit.ensures.aim ∙ c.loop-self.invariant.aim;
      passed = next_passed (checked_in s) s.waivers.now s.unit (step_of_part s.part) now.unit (step_of_part now.part) new.unit
          (step_of_part new.part) c.loop-self.invariant.passed
          (subst (λ (aim : Aim). TellsNoneFrom aim.font aim.waivers now.unit (step_of_part now.part)) c.loop-self.invariant.aim c.in_default.ensures.found)
          (omega (arith, c.next_unit.ensures.unit, c.next_in_unit.ensures.unit)) c.next_unit.ensures.start;
    }

pub returns-clause-found : goal.returns-clause-found
returns-clause-found c =
    let s = c.args.self.now in
    let now = c.loop-self.self in
    none_past (checked_in s) s.waivers.now s.unit (step_of_part s.part) now.unit (step_of_part now.part) c.loop-self.invariant.passed
    (subst (λ (aim : Aim). length aim.font.value.glyphs + 1 < now.unit) c.loop-self.invariant.aim
    (over_past (checked_in now) now.waivers.now now.from now.first now.unit now.passed now.checked now.part c.loop-self.invariant.search.part_is
    (sym c.loop-self-test.ensures)))
