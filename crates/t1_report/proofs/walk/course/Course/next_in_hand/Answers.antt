use Rattle.std.proofs.Common.{◌∙◌, sym, subst}
use Rattle.t1_report.specs.Faults.{fault_value}
use Rattle.t1_report.specs.Private.Courses.{HasInHand}
use Rattle.t1_report.proofs.Hands.{hand_marked, next_fault, to_be_found, turns_found}
use Rattle.t1_report.proofs.walk.course.Course.next_in_hand.Goals as goal

pub returns-in-Some-clause-next : goal.returns-in-Some-clause-next
returns-in-Some-clause-next c =
    let now = c.args.self.now in
    next_fault now.search now.found now.mark c.floor-floor.result c.in-Some.rule c.fault_in-fault.result c.requires.hand c.floor-floor.ensures c.in-Some.ensures
    (record {
      number_is = c.fault_in-fault.ensures.number;
      unit_is = c.fault_in-fault.ensures.unit;
      step_is = c.fault_in-fault.ensures.step;
      rule_is = c.fault_in-fault.ensures.rule;
      path_is = c.fault_in-fault.ensures.path;
    })

pub returns-in-Some-clause-turns : goal.returns-in-Some-clause-turns
returns-in-Some-clause-turns c =
    let now = c.args.self.now in
    turns_found now.search now.found now.mark c.in-Some.rule c.fault_in-fault.result c.requires.searches c.requires.hand c.in-Some.ensures.is_in
    (record {
      number_is = c.fault_in-fault.ensures.number;
      unit_is = c.fault_in-fault.ensures.unit;
      step_is = c.fault_in-fault.ensures.step;
      rule_is = c.fault_in-fault.ensures.rule;
      path_is = c.fault_in-fault.ensures.path;
    })

pub returns-in-Some-clause-unit : goal.returns-in-Some-clause-unit
returns-in-Some-clause-unit c = c.fault_in-fault.ensures.unit ∙ sym (c.requires.hand.ahead _ c.in-Some.ensures.is_in).0

pub returns-in-Some-clause-course : goal.returns-in-Some-clause-course
returns-in-Some-clause-course c =
    let now = c.args.self.now in
    record {
      searches = c.requires.searches;
      hand = subst (λ mark. HasInHand now.search now.found mark) (sym c.mark_at-self.ensures)
          (hand_marked now.search now.found now.mark (fault_value c.fault_in-fault.result) c.requires.hand
          (next_fault now.search now.found now.mark c.floor-floor.result c.in-Some.rule c.fault_in-fault.result c.requires.hand c.floor-floor.ensures
          c.in-Some.ensures
          (record {
            number_is = c.fault_in-fault.ensures.number;
            unit_is = c.fault_in-fault.ensures.unit;
            step_is = c.fault_in-fault.ensures.step;
            rule_is = c.fault_in-fault.ensures.rule;
            path_is = c.fault_in-fault.ensures.path;
          })));
    }

pub returns-in_default-clause-next : goal.returns-in_default-clause-next
returns-in_default-clause-next c =
    let now = c.args.self.now in
    to_be_found now.search now.found now.mark c.floor-floor.result c.requires.hand c.floor-floor.ensures c.in_default.ensures
