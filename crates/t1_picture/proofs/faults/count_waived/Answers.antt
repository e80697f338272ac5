use Rattle.std.proofs.Common.{◌≡◌, ◌+◌, ℕ, List, [], true, false, ap, nat_le, subst, sym, ◌∙◌}
use Rattle.t1_picture.specs.Private.FaultViews.{counted}
use Rattle.t1_picture.specs.Marks.{is_waived_of, last_of}
use Rattle.t1_picture.specs.Subjects.{subject_of}
use Rattle.t1_picture.proofs.FaultSteps.{HasCounted, all_counted, none_comes, none_drawn, one_counted}
use Rattle.t1_picture.proofs.faults.count_waived.Goals as goal
use Rattle.t1_report.specs.declared.marks.Mark.{Mark}
use Rattle.t1_report.specs.Faults.{fault_value}
use Rattle.t1_report.specs.UnitFaults.{UnitView}
use Rattle.t1_report.specs.Waivers.{is_waived}
use Rattle.t1_rules.specs.Book.{number_of}

pub returns-in_default : goal.returns-in_default
returns-in_default c = λ all are.
    let s = subject_of c.args.view.now in
    let held = c.loop-fault.invariant in
    let has = held.counted all are in
    all_counted s all c.loop-fault._fault c.loop-fault.course.mark c.loop-fault.waived has
    (none_comes s [] c.loop-fault._fault c.loop-fault.course.mark has.rest has.are (rw (held.font, held.waivers, held.unit) at c.in_default.ensures.next))

pub returns-then-not-is_drawn : goal.returns-then-not-is_drawn
returns-then-not-is_drawn c = λ all are.
    let s = subject_of c.args.view.now in
    let held = c.loop-fault.invariant in
    let has = held.counted all are in
    let f = fault_value c.in-Some.fault in
    let past : nat_le f.step (last_of s) ≡ false = ap (nat_le f.step) (sym c.last.ensures) ∙ sym c.is_drawn.ensures ∙ c.if-not-is_drawn.true in
    all_counted s all c.loop-fault._fault c.loop-fault.course.mark c.loop-fault.waived has
    (none_drawn s [] c.loop-fault._fault c.loop-fault.course.mark has.rest f has.are (rw (held.font, held.waivers, held.unit) at c.in-Some.ensures.next) past)

pub loop-fault-preserved : goal.loop-fault-preserved
loop-fault-preserved c =
    let s = subject_of c.args.view.now in
    let held = c.loop-fault.invariant in
    let f = fault_value c.in-Some.fault in
    let state = c.in-Some.ensures.state in
    let shown : nat_le f.step (last_of s) ≡ true = ap (nat_le f.step) (sym c.last.ensures) ∙ sym c.is_drawn.ensures ∙ c.if-not-is_drawn.false in
    let waived : c.waives.result ≡ is_waived_of s f = c.waives.ensures ∙ ap (λ (name : List ℕ). is_waived s.waivers name (number_of f.rule)) c.name.ensures in
    record {
      font = ap (λ (u : UnitView). u.font) state ∙ held.font;
      waivers = ap (λ (u : UnitView). u.waivers) state ∙ held.waivers;
      unit = ap (λ (u : UnitView). u.unit) state ∙ held.unit;
      counted = λ all are.
          subst (λ (m : Mark). HasCounted s all (c.loop-fault._fault + 1) m c.counted-waived.result) (sym (ap (λ (u : UnitView). u.mark) state))
          (one_counted s all c.loop-fault._fault c.loop-fault.course.mark c.loop-fault.waived c.counted-waived.result f (held.counted all are)
          c.loop-fault-test.true (rw (held.font, held.waivers, held.unit) at c.in-Some.ensures.next) shown
          (c.counted-waived.ensures ∙ ap (counted c.loop-fault.waived) waived));
    }
