use Rattle.std.proofs.Common.{◌≡◌, ◌∙◌, ◌+◌, ap, arith, refl, subst, sym, ℕ, option_map}
use Rattle.t1_report.specs.Checked.{checked}
use Rattle.t1_report.specs.Faults.{fault_value}
use Rattle.t1_report.specs.Numbered.{numbered}
use Rattle.t1_report.specs.WalkViews.{WalkView}
use Rattle.t1_report.specs.Walks.{IsSoFar}
use Rattle.t1_report.specs.declared.marks.Mark.{Mark}
use Rattle.t1_report.proofs.HasReport.{has_report}
use Rattle.t1_report.proofs.LaterFaults.{marks_go_on_counting}
use Rattle.t1_report.proofs.Numbered.{none_numbered, one_numbered}
use Rattle.t1_report.proofs.SoFar.{none_left_in_font, so_far_start}
use Rattle.t1_report.proofs.reporting.fault_numbered.Goals as goal

pub loop-count-init : goal.loop-count-init
loop-count-init c =
    let report = has_report (checked c.args.font.now c.args.sidebearings.now.edition) c.args.waivers.now in
    record {
      font = c.begin-walk.ensures.font;
      waivers = c.begin-walk.ensures.waivers;
      so_far = subst (λ (m : Mark). IsSoFar report.0 0 m) (sym c.begin-walk.ensures.mark) (so_far_start report.0);
      fault = refl;
      in_font = tt;
    }

pub returns-in_err-next-clause-fault : goal.returns-in_err-next-clause-fault
returns-in_err-next-clause-fault c =
    let held = c.loop-count.invariant in
    let font = checked c.args.font.now c.args.sidebearings.now.edition in
    let report = has_report font c.args.waivers.now in
    let all = none_left_in_font font c.args.waivers.now report.0 c.loop-count._count c.loop-count.walk.mark report.1 held.so_far
    (rw (held.font, held.waivers) at c.in_err-next.ensures.next) in
    record {
      faults = report.0;
      reported = report.1;
      is = rw c.from_residual.ensures (sym (none_numbered report.0 c.loop-count._count c.args.number all c.loop-count-test.true));
    }

pub loop-count-preserved : goal.loop-count-preserved
loop-count-preserved c =
    let held = c.loop-count.invariant in
    let state = c.in_ok-next.ensures.state in
    let font = checked c.args.font.now c.args.sidebearings.now.edition in
    let report = has_report font c.args.waivers.now in
    let next = rw (held.font, held.waivers) at c.in_ok-next.ensures.next in
    let goes = marks_go_on_counting font c.args.waivers.now report.0 c.loop-count._count c.loop-count.walk.mark
    (fault_value c.in_ok-next.field-0) c.are_few.ensures.glyphs c.are_few.ensures.waivers report.1 held.so_far next in
    record {
      font = ap (λ (w : WalkView). w.font) state ∙ held.font;
      waivers = ap (λ (w : WalkView). w.waivers) state ∙ held.waivers;
      so_far = subst (λ (m : Mark). IsSoFar report.0 (c.loop-count._count + 1) m) (sym (ap (λ (w : WalkView). w.mark) state)) goes.1;
      fault = sym (one_numbered report.0 c.loop-count._count ∙ goes.0);
      in_font = rw (held.font, held.waivers) at c.in_ok-next.ensures.in_font;
    }

pub returns-clause-fault : goal.returns-clause-fault
returns-clause-fault c =
    let report = has_report (checked c.args.font.now c.args.sidebearings.now.edition) c.args.waivers.now in
    let all : c.loop-count._count ≡ c.args.number = omega (arith, c.loop-count-test.false, c.loop-count.auto._count-end) in
    record {
      faults = report.0;
      reported = report.1;
      is = subst (λ (number : ℕ). option_map fault_value c.loop-count.fault ≡ numbered report.0 number) all c.loop-count.invariant.fault;
    }

pub returns-clause-in_font : goal.returns-clause-in_font
returns-clause-in_font c = c.loop-count.invariant.in_font
