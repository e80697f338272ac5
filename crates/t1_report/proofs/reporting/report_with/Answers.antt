use Rattle.std.proofs.Common.{◌≡◌, ◌<◌, ◌≤◌, ◌-◌, ℕ, List, [], ◌∷◌, ◌++◌, drop, length, length-append, sym, ap, ◌∙◌, arith}
use Rattle.std.proofs.lemmas.List.{map-append}
use Rattle.t1_report.specs.Checked.{CheckedFont, checked}
use Rattle.t1_report.specs.Faults.{FaultValue, fault_value, faults_of}
use Rattle.t1_report.specs.Reports.{IsReport}
use Rattle.t1_report.specs.Waivers.{Waiver}
use Rattle.t1_report.specs.WalkViews.{WalkView}
use Rattle.t1_report.specs.Walks.{HasNoneLater, IsNext, mark_of}
use Rattle.t1_report.specs.declared.faults.Fault.{Fault}
use Rattle.t1_report.specs.declared.marks.Mark.{Mark}
use Rattle.t1_report.proofs.GivenFaults.{IsGiven, all_given, begin_with, none_given, one_given}
use Rattle.t1_report.proofs.HasReport.{has_report}
use Rattle.t1_report.proofs.InFont.{all_in_font}
use Rattle.t1_report.proofs.LaterFaults.{given_are_the_front, the_report}
use Rattle.t1_report.proofs.SoFar.{so_far_start}
use Rattle.t1_report.proofs.reporting.report_with.Goals as goal

-- One fault more is in the list.
pushed : (font : CheckedFont) (waivers : List Waiver) (faults more : List Fault) (mark last : Mark) (fault : Fault)
    → more ≡ faults ++ fault ∷ [] → last ≡ mark_of (fault_value fault) → IsGiven font waivers (faults_of faults) (length faults) mark
    → IsNext font waivers mark (fault_value fault) → IsGiven font waivers (faults_of more) (length more) last
pushed font waivers faults more mark last fault is at given next =
    rw (is, at, map-append fault_value faults (fault ∷ []), length-append faults (fault ∷ []))
    (one_given font waivers (faults_of faults) (length faults) mark (fault_value fault) given next)

-- No more are given than the report has.
at_most : (font : CheckedFont) (waivers : List Waiver) (given : List FaultValue) (count : ℕ) (mark : Mark) → length font.value.glyphs ≤ 65535
    → length waivers ≤ 1048576 → IsGiven font waivers given count mark → count ≤ length (has_report font waivers).0
at_most font waivers given count mark few few_waivers is =
    let report = has_report font waivers in
    let whole = begin_with font waivers few few_waivers so_far_start given_are_the_front report.0 report.1 given count mark is in
    omega (arith, ap (λ (faults : List FaultValue). length faults) whole, length-append given (drop (length given) report.0), is.so_many)

pub loop-fault-init : goal.loop-fault-init
loop-fault-init c =
    let font = checked c.args.font.now c.args.sidebearings.now.edition in
    record {
      font = c.begin-walk.ensures.font;
      waivers = c.begin-walk.ensures.waivers;
      given = rw c.new-faults.ensures.items (none_given font c.args.waivers.now c.begin-walk.result.mark c.begin-walk.ensures.mark);
    }

pub loop-fault-preserved : goal.loop-fault-preserved
loop-fault-preserved c =
    let font = checked c.args.font.now c.args.sidebearings.now.edition in
    let before = c.loop-fault.invariant in
    record {
      font = ap (λ (w : WalkView). w.font) c.in-Some.ensures.state ∙ before.font;
      waivers = ap (λ (w : WalkView). w.waivers) c.in-Some.ensures.state ∙ before.waivers;
      given = pushed font c.args.waivers.now c.loop-fault.faults.items c.push.new.self.items c.loop-fault.walk.mark c.next.new.self.mark
          c.in-Some.fault c.in_ok-push.ensures.items (ap (λ (w : WalkView). w.mark) c.in-Some.ensures.state) before.given
          (rw (sym before.font, sym before.waivers) c.in-Some.ensures.next);
    }

pub loop-fault-smaller : goal.loop-fault-smaller
loop-fault-smaller c =
    let font = checked c.args.font.now c.args.sidebearings.now.edition in
    let waivers = c.args.waivers.now in
    let most = at_most font waivers (faults_of c.push.new.self.items) (length c.push.new.self.items) c.next.new.self.mark c.are_few.ensures.glyphs
    c.are_few.ensures.waivers (loop-fault-preserved c).given in
    let one_more = ap (λ (faults : List Fault). length faults) c.in_ok-push.ensures.items
    ∙ length-append c.loop-fault.faults.items (c.in-Some.fault ∷ []) in
    let less : length (has_report font waivers).0 - length c.push.new.self.items < length (has_report font waivers).0 - length c.loop-fault.faults.items =
    omega (arith, most, one_more) in
    less

pub returns : goal.returns
returns c =
    let font = checked c.args.font.now c.args.sidebearings.now.edition in
    let waivers = c.args.waivers.now in
    let before = c.loop-fault.invariant in
    let none : HasNoneLater font waivers c.loop-fault.walk.mark = rw (sym before.font, sym before.waivers) c.in_default.ensures.next in
    let report : IsReport font waivers (faults_of c.loop-fault.faults.items) =
    all_given font waivers c.are_few.ensures.glyphs c.are_few.ensures.waivers the_report (faults_of c.loop-fault.faults.items)
    (length c.loop-fault.faults.items) c.loop-fault.walk.mark before.given none in
    record { exact = report; in_font = all_in_font font waivers c.loop-fault.faults.items report }
