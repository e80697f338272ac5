use Rattle.std.proofs.Common.{ℕ, ◌-◌, ◌<◌, ap, sym, subst, ◌∙◌}
use Rattle.t1_report.specs.declared.walk.search.Search.{Search}
use Rattle.t1_report.specs.Private.Courses.{turns_so_far}
use Rattle.t1_report.specs.Private.Searches.{Aim, IsDone, aim_of, checked_in, step_of_part}
use Rattle.t1_report.specs.Faults.{fault_value}
use Rattle.t1_report.specs.UnitFaults.{HasNoneLaterInUnit, IsNextInUnit}
use Rattle.t1_report.specs.Walks.{turns_at}
use Rattle.t1_report.proofs.Hands.{fewer_steps, hand_done, hand_found, next_of_unit, none_in_unit, turns_of_done}
use Rattle.t1_report.proofs.Units.{first_in_unit}
use Rattle.t1_report.proofs.walk.course.Course.next_in_unit.Goals as goal

pub returns-in-Some-clause-next : goal.returns-in-Some-clause-next
returns-in-Some-clause-next c =
    let now = c.loop-fault.self in
    let fault = fault_value c.in-Some.fault in
    subst (λ (aim : Aim). IsNextInUnit aim.font aim.waivers c.args.self.now.search.unit c.args.self.now.mark fault) c.loop-fault.invariant.aim
    (subst (λ mark. IsNextInUnit (checked_in now.search) now.search.waivers.now c.args.self.now.search.unit mark fault) c.loop-fault.invariant.mark
    (next_of_unit (checked_in now.search) now.search.waivers.now c.args.self.now.search.unit now.mark fault c.in-Some.ensures.next
    (c.in-Some.ensures.unit ∙ c.loop-fault.invariant.unit)))

pub loop-fault-smaller : goal.loop-fault-smaller
loop-fault-smaller c =
    let new = c.next_in_unit.new.self in
    subst (λ (old : Search). 2000000 - step_of_part new.part < 2000000 - step_of_part old.part) c.in_default.ensures.search
    (fewer_steps c.next_in_hand.new.self.search new c.in-Some-next_in_unit.found c.in_default.ensures.course.searches c.in-Some-next_in_unit.ensures.found
    c.in-Some-next_in_unit.ensures.step)

pub loop-fault-preserved : goal.loop-fault-preserved
loop-fault-preserved c =
    let s = c.next_in_hand.new.self.search in
    let found = c.in-Some-next_in_unit.ensures.found in
    record {
      course = record {
        searches = c.next_in_unit.ensures.search;
        hand = hand_found s c.next_in_unit.new.self c.in-Some-next_in_unit.found c.next_in_hand.new.self.mark c.in_default.ensures.next
            (ap (λ (aim : Aim). aim.font) c.next_in_unit.ensures.aim) (ap (λ (aim : Aim). aim.waivers) c.next_in_unit.ensures.aim)
            (first_in_unit (checked_in s) s.waivers.now s.unit (step_of_part s.part) c.in-Some-next_in_unit.found c.in-Some-next_in_unit.ensures.within found)
            (c.next_in_unit.ensures.unit ∙ sym found.unit_is, c.in-Some-next_in_unit.ensures.step);
      };
      aim = c.next_in_unit.ensures.aim ∙ ap aim_of c.in_default.ensures.search ∙ c.loop-fault.invariant.aim;
      unit = c.next_in_unit.ensures.unit ∙ ap (λ (s : Search). s.unit) c.in_default.ensures.search ∙ c.loop-fault.invariant.unit;
      mark = c.in_default.ensures.mark ∙ c.loop-fault.invariant.mark;
    }

pub returns-in-None-clause-next : goal.returns-in-None-clause-next
returns-in-None-clause-next c =
    let s = c.next_in_hand.new.self.search in
    let unit = ap (λ (s : Search). s.unit) c.in_default.ensures.search ∙ c.loop-fault.invariant.unit in
    subst (λ (aim : Aim). HasNoneLaterInUnit aim.font aim.waivers c.args.self.now.search.unit c.args.self.now.mark)
    (ap aim_of c.in_default.ensures.search ∙ c.loop-fault.invariant.aim)
    (subst (λ mark. HasNoneLaterInUnit (checked_in s) s.waivers.now c.args.self.now.search.unit mark) (c.in_default.ensures.mark ∙ c.loop-fault.invariant.mark)
    (subst (λ (u : ℕ). HasNoneLaterInUnit (checked_in s) s.waivers.now u c.next_in_hand.new.self.mark) unit
    (none_in_unit s c.next_in_hand.new.self.mark c.in_default.ensures.next c.in-None.ensures.found)))

pub returns-in-Some-clause-turns : goal.returns-in-Some-clause-turns
returns-in-Some-clause-turns c =
    let s = c.args.self.now.search in
    let fault = c.in-Some.fault in
    ap turns_so_far c.in-Some.ensures.search ∙ c.in-Some.ensures.turns
    ∙ ap (λ (aim : Aim). turns_at aim.font aim.waivers aim.from aim.first fault.unit fault.step) c.loop-fault.invariant.aim
    ∙ ap (λ (from : ℕ). turns_at (checked_in s) s.waivers.now from s.first fault.unit fault.step) c.requires.begins
    ∙ ap (λ (first : ℕ). turns_at (checked_in s) s.waivers.now s.unit first fault.unit fault.step) c.requires.first

pub returns-in-Some-clause-course : goal.returns-in-Some-clause-course
returns-in-Some-clause-course c =
    let aim = ap aim_of c.in-Some.ensures.search ∙ c.loop-fault.invariant.aim in
    let unit = ap (λ (s : Search). s.unit) c.in-Some.ensures.search ∙ c.loop-fault.invariant.unit in
    record {
      course = c.in-Some.ensures.course;
      begins = ap (λ (aim : Aim). aim.from) aim ∙ c.requires.begins ∙ sym unit;
      first = ap (λ (aim : Aim). aim.first) aim ∙ c.requires.first;
    }

pub returns-in-None-clause-turns : goal.returns-in-None-clause-turns
returns-in-None-clause-turns c =
    let new = c.next_in_unit.new.self in
    let before = ap aim_of c.in_default.ensures.search ∙ c.loop-fault.invariant.aim in
    let unit = ap (λ (s : Search). s.unit) c.in_default.ensures.search ∙ c.loop-fault.invariant.unit in
    turns_of_done c.args.self.now.search new c.next_in_unit.ensures.search (c.next_in_unit.ensures.aim ∙ before) (c.next_in_unit.ensures.unit ∙ unit)
    c.requires.begins c.requires.first
    (subst (λ (aim : Aim). IsDone aim.font aim.waivers c.args.self.now.search.unit new.part) before
    (subst (λ (u : ℕ). IsDone (checked_in c.next_in_hand.new.self.search) c.next_in_hand.new.self.search.waivers.now u new.part) unit
    c.in-None.ensures.step))

pub returns-in-None-clause-course : goal.returns-in-None-clause-course
returns-in-None-clause-course c =
    let aim = c.next_in_unit.ensures.aim ∙ ap aim_of c.in_default.ensures.search ∙ c.loop-fault.invariant.aim in
    let unit = c.next_in_unit.ensures.unit ∙ ap (λ (s : Search). s.unit) c.in_default.ensures.search ∙ c.loop-fault.invariant.unit in
    record {
      course = record {
        searches = c.next_in_unit.ensures.search;
        hand = hand_done c.next_in_hand.new.self.search c.next_in_unit.new.self _ c.next_in_hand.new.self.mark c.empty-self.ensures c.in_default.ensures.next
            (ap (λ (aim : Aim). aim.font) c.next_in_unit.ensures.aim) (ap (λ (aim : Aim). aim.waivers) c.next_in_unit.ensures.aim) c.next_in_unit.ensures.unit
            c.in-None.ensures.found;
      };
      begins = ap (λ (aim : Aim). aim.from) aim ∙ c.requires.begins ∙ sym unit;
      first = ap (λ (aim : Aim). aim.first) aim ∙ c.requires.first;
    }
