use Rattle.std.proofs.Common.{◌+◌, ◌-◌, ◌*◌, ◌<◌, length, ap, sym, subst, ◌∙◌}
use Rattle.t1_report.specs.declared.walk.search.Search.{Search}
use Rattle.t1_report.specs.Private.Searches.{Aim, aim_of, checked_in, step_of_part}
use Rattle.t1_report.specs.Private.Courses.{turns_so_far}
use Rattle.t1_report.specs.Faults.{fault_value}
use Rattle.t1_report.specs.Walks.{HasNoneLater, IsNext, turns_at, turns_in_all}
use Rattle.t1_report.proofs.Hands.{fewer_places, hand_empty, hand_found, hand_none, turns_over}
use Rattle.t1_report.proofs.walk.course.Course.next.Goals as goal

pub returns-in-Some-clause-next : goal.returns-in-Some-clause-next
returns-in-Some-clause-next c =
    let now = c.loop-fault.self in
    subst (λ (aim : Aim). IsNext aim.font aim.waivers c.args.self.now.mark (fault_value c.in-Some.fault)) c.loop-fault.invariant.aim
    (subst (λ mark. IsNext (checked_in now.search) now.search.waivers.now mark (fault_value c.in-Some.fault)) c.loop-fault.invariant.mark
    c.in-Some.ensures.next)

pub returns-in-Some-clause-turns : goal.returns-in-Some-clause-turns
returns-in-Some-clause-turns c =
    ap turns_so_far c.in-Some.ensures.search ∙ c.in-Some.ensures.turns
    ∙ ap (λ (aim : Aim). turns_at aim.font aim.waivers aim.from aim.first c.in-Some.fault.unit c.in-Some.fault.step) c.loop-fault.invariant.aim

pub loop-fault-smaller : goal.loop-fault-smaller
loop-fault-smaller c =
    let s = c.next_in_hand.new.self.search in
    let new = c.next.new.self in
    subst (λ (old : Search). (length new.font.now.glyphs + 2 - new.unit) * 2000000 + (2000000 - step_of_part new.part)
    < (length old.font.now.glyphs + 2 - old.unit) * 2000000 + (2000000 - step_of_part old.part)) c.in_default.ensures.search
    (fewer_places s new c.in-Some-next.found c.in_default.ensures.course.searches (ap (λ (aim : Aim). aim.font) c.next.ensures.aim)
    c.in-Some-next.ensures.found c.in-Some-next.ensures.behind)

pub loop-fault-preserved : goal.loop-fault-preserved
loop-fault-preserved c =
    let s = c.next_in_hand.new.self.search in
    record {
      course = record {
        searches = c.next.ensures.search;
        hand = hand_found s c.next.new.self c.in-Some-next.found c.next_in_hand.new.self.mark c.in_default.ensures.next
            (ap (λ (aim : Aim). aim.font) c.next.ensures.aim) (ap (λ (aim : Aim). aim.waivers) c.next.ensures.aim) c.in-Some-next.ensures.found
            c.in-Some-next.ensures.behind;
      };
      aim = c.next.ensures.aim ∙ ap aim_of c.in_default.ensures.search ∙ c.loop-fault.invariant.aim;
      mark = c.in_default.ensures.mark ∙ c.loop-fault.invariant.mark;
    }

pub returns-in-None-clause-next : goal.returns-in-None-clause-next
returns-in-None-clause-next c =
    let s = c.next_in_hand.new.self.search in
    subst (λ (aim : Aim). HasNoneLater aim.font aim.waivers c.args.self.now.mark) (ap aim_of c.in_default.ensures.search ∙ c.loop-fault.invariant.aim)
    (subst (λ mark. HasNoneLater (checked_in s) s.waivers.now mark) (c.in_default.ensures.mark ∙ c.loop-fault.invariant.mark)
    (hand_none s c.next_in_hand.new.self.mark c.in_default.ensures.next c.in-None.ensures.found))

pub returns-in-None-clause-turns : goal.returns-in-None-clause-turns
returns-in-None-clause-turns c =
    let new = c.next.new.self in
    turns_over new c.next.ensures.search (subst (λ (aim : Aim). length aim.font.value.glyphs + 1 < new.unit) (sym c.next.ensures.aim) c.in-None.ensures.behind)
    ∙ ap (λ (aim : Aim). turns_in_all aim.font aim.waivers aim.from aim.first)
    (c.next.ensures.aim ∙ ap aim_of c.in_default.ensures.search ∙ c.loop-fault.invariant.aim)

pub returns-in-None-clause-course : goal.returns-in-None-clause-course
returns-in-None-clause-course c =
    let s = c.next_in_hand.new.self.search in
    let mark = c.next_in_hand.new.self.mark in
    record {
      searches = c.next.ensures.search;
      hand = hand_empty c.next.new.self _ mark c.empty-self.ensures
          (subst (λ (aim : Aim). HasNoneLater aim.font aim.waivers mark) (sym c.next.ensures.aim)
          (hand_none s mark c.in_default.ensures.next c.in-None.ensures.found));
    }
