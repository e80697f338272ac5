use Rattle.std.proofs.Common.{◌≡◌, ◌≤◌, ◌+◌, ◌-◌, ◌++◌, List, true, false, ap, arith, nat_le, refl, subst, sym, ◌∙◌}
use Rattle.t1_picture.specs.Drawings.{texts_of}
use Rattle.t1_picture.specs.Private.MarkViews.{IsMarked}
use Rattle.t1_picture.specs.Causes.{causes_of_reason}
use Rattle.t1_picture.specs.declared.causes.Cause.{Cause}
use Rattle.t1_picture.specs.Marks.{causes_of, direction_at, last_of, pen_at}
use Rattle.t1_picture.specs.Subjects.{subject_of}
use Rattle.t1_picture.proofs.FaultSteps.{HasAdded, all_added, causes_are, direction_is, none_comes, none_drawn, none_fits, one_added, pen_there, place_is, reason_is, steps_rise, still_for, still_of}
use Rattle.t1_picture.proofs.faults.add_faults.Goals as goal
use Rattle.t1_report.specs.declared.marks.Mark.{Mark}
use Rattle.t1_report.specs.Checked.{checked}
use Rattle.t1_report.specs.Faults.{fault_value}
use Rattle.t1_report.specs.UnitFaults.{UnitView}
use Rattle.t1_rules.specs.declared.step_rules.flex.Point.{Point}

pub returns-in_default : goal.returns-in_default
returns-in_default c = λ faults are.
    let s = subject_of c.args.view.now in
    let held = c.loop-fault.invariant in
    let has = held.added faults are in
    all_added s faults c.loop-fault._fault c.loop-fault.course.mark c.loop-fault.marks c.loop-fault.causes.items (texts_of c.loop-fault.lines.items) has
    (none_comes s s.waivers c.loop-fault._fault c.loop-fault.course.mark has.rest has.are (rw (held.font, held.waivers, held.unit) at c.in_default.ensures.next))

pub returns-then-not-is_drawn : goal.returns-then-not-is_drawn
returns-then-not-is_drawn c = λ faults are.
    let s = subject_of c.args.view.now in
    let held = c.loop-fault.invariant in
    let has = held.added faults are in
    let f = fault_value c.in-Some.fault in
    let past : nat_le f.step (last_of s) ≡ false = ap (nat_le f.step) (sym c.last.ensures) ∙ sym c.is_drawn.ensures ∙ c.if-not-is_drawn.true in
    all_added s faults c.loop-fault._fault c.loop-fault.course.mark c.loop-fault.marks c.loop-fault.causes.items (texts_of c.loop-fault.lines.items) has
    (none_drawn s s.waivers c.loop-fault._fault c.loop-fault.course.mark has.rest f has.are
    (rw (held.font, held.waivers, held.unit) at c.in-Some.ensures.next) past)

pub returns : goal.returns
returns c = λ faults are.
    let s = subject_of c.args.view.now in
    let has = c.loop-fault.invariant.added faults are in
    all_added s faults c.loop-fault._fault c.loop-fault.course.mark c.loop-fault.marks c.loop-fault.causes.items (texts_of c.loop-fault.lines.items) has
    (none_fits s c.loop-fault._fault has.rest c.loop-fault-test.false)

pub add_lines-requires-clause-reason : goal.add_lines-requires-clause-reason
add_lines-requires-clause-reason c =
    let f = fault_value c.in-Some.fault in
    let next = rw (c.loop-fault.invariant.font, c.loop-fault.invariant.waivers, c.loop-fault.invariant.unit) at c.in-Some.ensures.next in
    c.reason-reason.ensures.reason
    ∙ reason_is (subject_of c.args.view.now) c.loop-fault.reasons f c.loop-fault.invariant.reasons next.violation.violated.0 c.requires.view.glyph

pub loop-fault-preserved : goal.loop-fault-preserved
loop-fault-preserved c =
    let s = subject_of c.args.view.now in
    let held = c.loop-fault.invariant in
    let f = fault_value c.in-Some.fault in
    let state = c.in-Some.ensures.state in
    let next = rw (held.font, held.waivers, held.unit) at c.in-Some.ensures.next in
    let shown : nat_le f.step (last_of s) ≡ true = ap (nat_le f.step) (sym c.last.ensures) ∙ sym c.is_drawn.ensures ∙ c.if-not-is_drawn.false in
    let rises : c.loop-fault.course.mark.step ≤ f.step =
    steps_rise (checked s.font s.edition) s.waivers (s.glyph + 1) c.loop-fault.course.mark f held.at next in
    let goes = c.go_to.ensures.goes (omega (arith, held.run_before, rises, c.saturating_sub.ensures)) in
    let run = still_for s c.loop-fault.run c.go_to.new.self held.run c.go_to.ensures.same in
    let directions = still_for s c.loop-fault.directions c.at.new.self held.directions c.at.ensures.same in
    let direction : c.at.result ≡ direction_at s f =
    direction_is s c.at.new.self f c.at.result directions next.violation.violated.0 c.at.ensures.direction in
    let caused : causes_of_reason c.of-place.result f.rule c.reason-reason.result ≡ causes_of s f =
    causes_are s f c.of-place.result c.reason-reason.result next.violation.violated.0
    (c.of-place.ensures ∙ place_is s f (record { edition = s.edition; start = c.args.start; direction = c.at.result }) refl c.requires.start direction)
    (c.reason-reason.ensures.reason ∙ reason_is s c.loop-fault.reasons f held.reasons next.violation.violated.0 c.requires.view.glyph) in
    let added : c.add_causes.new.causes.items ≡ c.loop-fault.causes.items ++ causes_of_reason c.of-place.result f.rule c.reason-reason.result =
    c.in_ok-add_causes.ensures in
    let pen : c.point.result ≡ pen_at s f.step =
    c.point.ensures ∙ pen_there s c.loop-fault.run c.go_to.new.self c.saturating_sub.result f.step run goes c.saturating_sub.ensures in
    record {
      font = ap (λ (u : UnitView). u.font) state ∙ held.font;
      waivers = ap (λ (u : UnitView). u.waivers) state ∙ held.waivers;
      unit = ap (λ (u : UnitView). u.unit) state ∙ held.unit;
      at = ap (λ (u : UnitView). u.mark.unit) state ∙ next.violation.violated.0;
      run = run;
      run_before = subst (λ (m : Mark). c.go_to.new.self.counted ≤ m.step - 1) (sym (ap (λ (u : UnitView). u.mark) state))
          (omega (arith, goes.most, c.saturating_sub.ensures));
      reasons = still_of s c.loop-fault.reasons c.reason-reason.new.self held.reasons c.reason-reason.ensures.same;
      directions = directions;
      directions_before = subst (λ (m : Mark). c.at.new.self.counted ≤ m.step) (sym (ap (λ (u : UnitView). u.mark) state)) c.at.ensures.most;
      added = λ faults are.
          subst (λ (m : Mark). HasAdded s faults (c.loop-fault._fault + 1) m c.mark.new.self c.add_causes.new.causes.items (texts_of c.add_lines.new.lines.items))
          (sym (ap (λ (u : UnitView). u.mark) state))
          (one_added s faults c.loop-fault._fault c.loop-fault.course.mark c.loop-fault.marks c.mark.new.self c.loop-fault.causes.items c.add_causes.new.causes.items (texts_of c.loop-fault.lines.items)
          (texts_of c.add_lines.new.lines.items) f (held.added faults are) c.loop-fault-test.true next shown
          (subst (λ (p : Point). IsMarked c.loop-fault.marks c.mark.new.self p f.number) pen c.in_ok-mark.ensures)
          (added ∙ ap (λ (cs : List Cause). c.loop-fault.causes.items ++ cs) caused) c.in_ok-add_lines.ensures);
    }
