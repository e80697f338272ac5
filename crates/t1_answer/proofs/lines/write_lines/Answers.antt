use Rattle.std.proofs.Common.{◌+◌, ◌^◌, ◌-◌, ap, subst, sym, ◌∙◌, arith, List}
use Rattle.t1_report.specs.Checked.{CheckedFont, checked}
use Rattle.std.specs.Option.{unwrap_or}
use Rattle.t1_io.proofs.SinkLemmas.{Writes-failed}
use Rattle.t1_report.specs.Faults.{fault_value}
use Rattle.t1_report.specs.WalkViews.{WalkView}
use Rattle.t1_report.specs.Walks.{HasNoneLater, IsNext}
use Rattle.t1_report.specs.declared.marks.Mark.{Mark}
use Rattle.t1_report.specs.Lines.{IsInFont}
use Rattle.t1_run.specs.declared.status.Status.TheVariants.{Faults}
use Rattle.t1_answer.proofs.ChosenLines.{HaveGone, all_gone, most_gone, one_failed, one_gone}
use Rattle.t1_answer.proofs.lines.write_lines.Goals as goal
use Rattle.t1_report.specs.Waivers.{Waiver}

pub write_fault-requires : goal.write_fault-requires
write_fault-requires g c =
    subst (λ (waivers : List Waiver). IsInFont c.args.font.now waivers (fault_value c.in-Some.fault)) c.loop-line.invariant.waivers
    (subst (λ (font : CheckedFont). IsInFont font.value c.loop-line.walk.waivers (fault_value c.in-Some.fault))
    c.loop-line.invariant.font c.in-Some.ensures.in_font)

pub returns-in_err-write_fault-clause-writes : goal.returns-in_err-write_fault-clause-writes
returns-in_err-write_fault-clause-writes g c faults k report first =
    Writes-failed _ _ _ _ _ c.from_residual.ensures.1
    (one_failed c.marks_count_the_faults_given.ensures.next (checked c.args.font.now c.args.options.now.edition) c.args.waivers.now faults k
    (unwrap_or c.args.options.now.max (2 ^ 64 - 1)) c.loop-line._line c.loop-line.walk.mark (fault_value c.in-Some.fault) _ _ _ c.loop-line.status
    c.requires.few c.requires.few_waivers
    (omega (arith, c.loop-line-test.true, c.unwrap_or-line-end.ensures)) report
    (subst (λ (waivers : List Waiver). IsNext (checked c.args.font.now c.args.options.now.edition) waivers c.loop-line.walk.mark
    (fault_value c.in-Some.fault)) c.loop-line.invariant.waivers
    (subst (λ (font : CheckedFont). IsNext font c.loop-line.walk.waivers c.loop-line.walk.mark (fault_value c.in-Some.fault))
    c.loop-line.invariant.font c.in-Some.ensures.next))
    (c.loop-line.invariant.gone faults k report first) c.in_err-write_fault.ensures)

pub loop-line-preserved : goal.loop-line-preserved
loop-line-preserved g c = record {
  font = ap (λ (w : WalkView). w.font) c.in-Some.ensures.state ∙ c.loop-line.invariant.font;
  waivers = ap (λ (w : WalkView). w.waivers) c.in-Some.ensures.state ∙ c.loop-line.invariant.waivers;
  gone = λ faults k report first.
      subst (λ (mark : Mark). HaveGone c.args.font.now c.args.waivers.now faults k (unwrap_or c.args.options.now.max (2 ^ 64 - 1)) (c.loop-line._line + 1) mark
      (g.W.Sink.state c.args.sink.now) (g.W.Sink.state c.write_fault.new.sink) Faults)
      (sym (ap (λ (w : WalkView). w.mark) c.in-Some.ensures.state))
      (one_gone c.marks_count_the_faults_given.ensures.next (checked c.args.font.now c.args.options.now.edition) c.args.waivers.now faults k
      (unwrap_or c.args.options.now.max (2 ^ 64 - 1)) c.loop-line._line c.loop-line.walk.mark (fault_value c.in-Some.fault) _ _ _ c.loop-line.status
      c.requires.few c.requires.few_waivers
      (omega (arith, c.loop-line-test.true, c.unwrap_or-line-end.ensures)) report
      (subst (λ (waivers : List Waiver). IsNext (checked c.args.font.now c.args.options.now.edition) waivers c.loop-line.walk.mark
      (fault_value c.in-Some.fault)) c.loop-line.invariant.waivers
      (subst (λ (font : CheckedFont). IsNext font c.loop-line.walk.waivers c.loop-line.walk.mark (fault_value c.in-Some.fault))
      c.loop-line.invariant.font c.in-Some.ensures.next))
      (c.loop-line.invariant.gone faults k report first) c.in_ok-write_fault.ensures);
}

pub returns-after-loop-line-clause-writes : goal.returns-after-loop-line-clause-writes
returns-after-loop-line-clause-writes g c faults k report first =
    (most_gone (checked c.args.font.now c.args.options.now.edition) c.args.waivers.now faults k (unwrap_or c.args.options.now.max (2 ^ 64 - 1))
    c.loop-line._line c.loop-line.walk.mark _ _ c.loop-line.status
    (c.loop-line.invariant.gone faults k report first) (omega (arith, c.loop-line-test.false, c.unwrap_or-line-end.ensures))).0

pub returns-after-loop-line-clause-status : goal.returns-after-loop-line-clause-status
returns-after-loop-line-clause-status g c faults k report first =
    (most_gone (checked c.args.font.now c.args.options.now.edition) c.args.waivers.now faults k (unwrap_or c.args.options.now.max (2 ^ 64 - 1))
    c.loop-line._line c.loop-line.walk.mark _ _ c.loop-line.status
    (c.loop-line.invariant.gone faults k report first) (omega (arith, c.loop-line-test.false, c.unwrap_or-line-end.ensures))).1

pub returns-in_default-clause-writes : goal.returns-in_default-clause-writes
returns-in_default-clause-writes g c faults k report first =
    (all_gone c.marks_count_the_faults_given.ensures.end (checked c.args.font.now c.args.options.now.edition) c.args.waivers.now faults k
    (unwrap_or c.args.options.now.max (2 ^ 64 - 1)) c.loop-line._line c.loop-line.walk.mark _ _ c.loop-line.status report
    (subst (λ (waivers : List Waiver). HasNoneLater (checked c.args.font.now c.args.options.now.edition) waivers
    c.loop-line.walk.mark) c.loop-line.invariant.waivers
    (subst (λ (font : CheckedFont). HasNoneLater font c.loop-line.walk.waivers c.loop-line.walk.mark) c.loop-line.invariant.font c.in_default.ensures.next))
    (c.loop-line.invariant.gone faults k report first)).0

pub returns-in_default-clause-status : goal.returns-in_default-clause-status
returns-in_default-clause-status g c faults k report first =
    (all_gone c.marks_count_the_faults_given.ensures.end (checked c.args.font.now c.args.options.now.edition) c.args.waivers.now faults k
    (unwrap_or c.args.options.now.max (2 ^ 64 - 1)) c.loop-line._line c.loop-line.walk.mark _ _ c.loop-line.status report
    (subst (λ (waivers : List Waiver). HasNoneLater (checked c.args.font.now c.args.options.now.edition) waivers
    c.loop-line.walk.mark) c.loop-line.invariant.waivers
    (subst (λ (font : CheckedFont). HasNoneLater font c.loop-line.walk.waivers c.loop-line.walk.mark) c.loop-line.invariant.font c.in_default.ensures.next))
    (c.loop-line.invariant.gone faults k report first)).1
