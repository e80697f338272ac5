use Rattle.std.proofs.Common.{◌+◌, List, Option, None, Some, ap, arith, subst, sym, ◌∙◌}
use Rattle.t1_report.proofs.GivenFaults.{all_given}
use Rattle.t1_many.proofs.ReportLines.{HaveGone, lost_same, most_gone, no_ok, none_gone, one_failed, one_gone, one_passed}
use Rattle.t1_many.proofs.handing.hand_lines.Goals as goal
use Rattle.t1_many.proofs.handing.hand_lines.Goals.{then-is_told+in_ok-line, else-is_told}
use Rattle.t1_many.specs.Handing.{HandsOn, found_with, is_told, line, lines_by}
use Rattle.t1_summary.specs.declared.found.FontClass.{FontClass}
use Rattle.t1_many.specs.declared.policy.Lost.{Lost}
use Rattle.t1_many.specs.declared.verdict.Verdict.{Verdict}
use Rattle.t1_report.specs.Checked.{CheckedFont, checked}
use Rattle.t1_report.specs.Faults.{fault_value}
use Rattle.t1_report.specs.Lines.{IsInFont}
use Rattle.t1_report.specs.WalkViews.{WalkView}
use Rattle.t1_report.specs.Waivers.{Waiver}
use Rattle.t1_report.specs.Walks.{HasNoneLater, IsNext, mark_of}
use Rattle.t1_report.specs.declared.marks.Mark.{Mark}

pub loop-fault-init : goal.loop-fault-init
loop-fault-init g c = record {
  font = c.begin-walk.ensures.font;
  waivers = c.begin-walk.ensures.waivers;
  reasons = c.new-reasons.ensures;
  gone = none_gone _ _ _ _ g.F.Printer.takes _ _ c.begin-walk.ensures.mark;
}

pub line-requires-clause-in_font : goal.line-requires-clause-in_font
line-requires-clause-in_font g c =
    subst (λ (waivers : List Waiver). IsInFont c.args.font.now waivers (fault_value c.in-Some.fault)) c.loop-fault.invariant.waivers
    (subst (λ (font : CheckedFont). IsInFont font.value c.loop-fault.walk.waivers (fault_value c.in-Some.fault))
    c.loop-fault.invariant.font c.in-Some.ensures.in_font)

pub judge-verdict-requires : goal.judge-verdict-requires
judge-verdict-requires g c =
    subst (λ (waivers : List Waiver). IsInFont c.args.font.now waivers (fault_value c.in-Some.fault)) c.loop-fault.invariant.waivers
    (subst (λ (font : CheckedFont). IsInFont font.value c.loop-fault.walk.waivers (fault_value c.in-Some.fault))
    c.loop-fault.invariant.font c.in-Some.ensures.in_font)

pub line-requires-clause-font : goal.line-requires-clause-font
line-requires-clause-font g c = ap (λ (font : CheckedFont). font.value) c.loop-fault.invariant.reasons

pub returns-in_err-line : goal.returns-in_err-line
returns-in_err-line g c =
    let font = checked c.args.font.now c.args.sidebearings.now.edition in
    let judges = g.J.Judge.judges c.args.judge.now c.args.font.now c.args.waivers.now in
    let some = c.each_font_has_a_report.ensures font c.args.waivers.now in
    let next : IsNext font c.args.waivers.now c.loop-fault.walk.mark (fault_value c.in-Some.fault) =
    subst (λ (waivers : List Waiver). IsNext font waivers c.loop-fault.walk.mark (fault_value c.in-Some.fault)) c.loop-fault.invariant.waivers
    (subst (λ (f : CheckedFont). IsNext f c.loop-fault.walk.waivers c.loop-fault.walk.mark (fault_value c.in-Some.fault))
    c.loop-fault.invariant.font c.in-Some.ensures.next) in (
      some.0,
      some.1,
      subst (λ (lost : Option Lost). HandsOn g.F.Printer.takes c.args.printer.now c.line.new.self
          (lines_by judges c.args.name.now font c.args.waivers.now some.0) lost)
          (sym (lost_same {T = FontClass} c.from_residual.result c.in_err-line.field-0.0 c.from_residual.ensures.1))
          (one_failed judges c.args.name.now font c.args.waivers.now g.F.Printer.takes c.loop-fault._fault c.loop-fault.walk.mark c.args.printer.now
          c.loop-fault.printer c.loop-fault.found c.loop-fault.invariant.gone c.marks_count_the_faults_given.ensures.start
          c.marks_count_the_faults_given.ensures.given c.requires.few c.requires.few_waivers some.0 some.1 (fault_value c.in-Some.fault)
          c.line.new.self c.in_err-line.field-0.0
          (ap is_told (sym c.judge-verdict.ensures) ∙ sym c.is_told.ensures ∙ c.if-is_told.true) next
          (subst (λ (f : CheckedFont). g.F.Printer.takes c.loop-fault.printer c.line.new.self
          (line c.args.name.now f c.args.waivers.now (fault_value c.in-Some.fault)) (Some c.in_err-line.field-0.0)) c.loop-fault.invariant.reasons
          c.in_err-line.ensures.took)),
      no_ok {T = FontClass} {E = Lost} c.from_residual.result _ _ c.from_residual.ensures.1,
    )

pub loop-fault-preserved : goal.loop-fault-preserved
loop-fault-preserved g c =
    let font = checked c.args.font.now c.args.sidebearings.now.edition in
    let judges = g.J.Judge.judges c.args.judge.now c.args.font.now c.args.waivers.now in
    let next : IsNext font c.args.waivers.now c.loop-fault.walk.mark (fault_value c.in-Some.fault) =
    subst (λ (waivers : List Waiver). IsNext font waivers c.loop-fault.walk.mark (fault_value c.in-Some.fault)) c.loop-fault.invariant.waivers
    (subst (λ (f : CheckedFont). IsNext f c.loop-fault.walk.waivers c.loop-fault.walk.mark (fault_value c.in-Some.fault))
    c.loop-fault.invariant.font c.in-Some.ensures.next) in
    record {
      font = ap (λ (w : WalkView). w.font) c.in-Some.ensures.state ∙ c.loop-fault.invariant.font;
      waivers = ap (λ (w : WalkView). w.waivers) c.in-Some.ensures.state ∙ c.loop-fault.invariant.waivers;
      reasons = elim c.if-is_told.branch [
        | then-is_told+in_ok-line w ↦ w.reasons-is ∙ w.in_ok-line.ensures.same ∙ c.loop-fault.invariant.reasons
        | else-is_told w ↦ w.reasons-is ∙ c.loop-fault.invariant.reasons
      ];
      gone = subst (λ (mark : Mark). HaveGone judges c.args.name.now font c.args.waivers.now g.F.Printer.takes (c.loop-fault._fault + 1) mark
          c.args.printer.now c.if-is_told.printer c.found_with-found.result)
          (sym (ap (λ (w : WalkView). w.mark) c.in-Some.ensures.state))
          (subst (λ (found : FontClass). HaveGone judges c.args.name.now font c.args.waivers.now g.F.Printer.takes (c.loop-fault._fault + 1)
          (mark_of (fault_value c.in-Some.fault)) c.args.printer.now c.if-is_told.printer found)
          (sym (c.found_with-found.ensures ∙ ap (λ (v : Verdict). found_with v c.loop-fault.found) c.judge-verdict.ensures))
          (elim c.if-is_told.branch [
            | then-is_told+in_ok-line w ↦
                subst (λ (printer : g.row.F.Denot). HaveGone judges c.args.name.now font c.args.waivers.now g.F.Printer.takes (c.loop-fault._fault + 1)
                (mark_of (fault_value c.in-Some.fault)) c.args.printer.now printer (found_with (judges (fault_value c.in-Some.fault)) c.loop-fault.found))
                (sym w.printer-is)
                (one_gone judges c.args.name.now font c.args.waivers.now g.F.Printer.takes c.loop-fault._fault c.loop-fault.walk.mark c.args.printer.now
                c.loop-fault.printer c.loop-fault.found c.loop-fault.invariant.gone (fault_value c.in-Some.fault) next w.line.new.self
                (ap is_told (sym c.judge-verdict.ensures) ∙ sym c.is_told.ensures ∙ w.if-is_told.true)
                (subst (λ (f : CheckedFont). g.F.Printer.takes c.loop-fault.printer w.line.new.self
                (line c.args.name.now f c.args.waivers.now (fault_value c.in-Some.fault)) None) c.loop-fault.invariant.reasons
                w.in_ok-line.ensures.took))
            | else-is_told w ↦
                subst (λ (printer : g.row.F.Denot). HaveGone judges c.args.name.now font c.args.waivers.now g.F.Printer.takes (c.loop-fault._fault + 1)
                (mark_of (fault_value c.in-Some.fault)) c.args.printer.now printer (found_with (judges (fault_value c.in-Some.fault)) c.loop-fault.found))
                (sym w.printer-is)
                (one_passed judges c.args.name.now font c.args.waivers.now g.F.Printer.takes c.loop-fault._fault c.loop-fault.walk.mark c.args.printer.now
                c.loop-fault.printer c.loop-fault.found c.loop-fault.invariant.gone (fault_value c.in-Some.fault) next
                (ap is_told (sym c.judge-verdict.ensures) ∙ sym c.is_told.ensures ∙ w.if-is_told.false))
          ]));
    }

pub returns-after-loop-fault : goal.returns-after-loop-fault
returns-after-loop-fault g c =
    let font = checked c.args.font.now c.args.sidebearings.now.edition in
    let some = c.each_font_has_a_report.ensures font c.args.waivers.now in
    let all = most_gone (g.J.Judge.judges c.args.judge.now c.args.font.now c.args.waivers.now) c.args.name.now font c.args.waivers.now g.F.Printer.takes
    c.loop-fault._fault c.loop-fault.walk.mark c.args.printer.now c.loop-fault.printer c.loop-fault.found c.loop-fault.invariant.gone
    c.marks_count_the_faults_given.ensures.start c.marks_count_the_faults_given.ensures.given c.requires.few c.requires.few_waivers
    some.0 some.1 (omega (arith, c.loop-fault-test.false)) in
    (some.0, some.1, all.0, all.1)

pub returns-in_default : goal.returns-in_default
returns-in_default g c =
    let font = checked c.args.font.now c.args.sidebearings.now.edition in
    let none : HasNoneLater font c.args.waivers.now c.loop-fault.walk.mark =
    subst (λ (waivers : List Waiver). HasNoneLater font waivers c.loop-fault.walk.mark) c.loop-fault.invariant.waivers
    (subst (λ (f : CheckedFont). HasNoneLater f c.loop-fault.walk.waivers c.loop-fault.walk.mark) c.loop-fault.invariant.font
    c.in_default.ensures.next) in
    let gone = c.loop-fault.invariant.gone in (
      gone.given,
      all_given font c.args.waivers.now c.requires.few c.requires.few_waivers c.faults_after_the_first_mark_are_the_report.ensures
          gone.given c.loop-fault._fault c.loop-fault.walk.mark gone.is none,
      gone.handed,
      gone.found_is,
    )
