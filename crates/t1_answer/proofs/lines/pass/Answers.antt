use Rattle.std.proofs.Common.{◌+◌, ap, subst, sym, ◌∙◌, List}
use Rattle.t1_report.specs.Checked.{CheckedFont}
use Rattle.t1_report.specs.Faults.{fault_value}
use Rattle.t1_report.specs.WalkViews.{WalkView}
use Rattle.t1_report.specs.Walks.{HasNoneLater, IsNext, IsSoFar}
use Rattle.t1_answer.proofs.ChosenLines.{all_passed, one_passed}
use Rattle.t1_answer.proofs.lines.pass.Goals as goal
use Rattle.t1_report.specs.Waivers.{Waiver}

pub returns-in_default-clause-passed : goal.returns-in_default-clause-passed
returns-in_default-clause-passed c faults report first =
    subst (IsSoFar faults _) (sym (ap (λ (w : WalkView). w.mark) c.in_default.ensures.state))
    (all_passed c.marks_count_the_faults_given.ensures.end c.args.walk.now.font c.args.walk.now.waivers faults c.args.count
    c.loop-fault._fault c.loop-fault.walk.mark report
    (subst (λ (waivers : List Waiver). HasNoneLater c.args.walk.now.font waivers c.loop-fault.walk.mark) c.loop-fault.invariant.waivers
    (subst (λ (font : CheckedFont). HasNoneLater font c.loop-fault.walk.waivers c.loop-fault.walk.mark) c.loop-fault.invariant.font c.in_default.ensures.next))
    c.loop-fault-test.true (c.loop-fault.invariant.passed faults report first))

pub loop-fault-preserved : goal.loop-fault-preserved
loop-fault-preserved c = record {
  font = ap (λ (w : WalkView). w.font) c.in-Some.ensures.state ∙ c.loop-fault.invariant.font;
  waivers = ap (λ (w : WalkView). w.waivers) c.in-Some.ensures.state ∙ c.loop-fault.invariant.waivers;
  passed = λ faults report first.
      subst (IsSoFar faults (c.loop-fault._fault + 1)) (sym (ap (λ (w : WalkView). w.mark) c.in-Some.ensures.state))
      (one_passed c.marks_count_the_faults_given.ensures.next c.args.walk.now.font c.args.walk.now.waivers faults c.loop-fault._fault c.loop-fault.walk.mark
      (fault_value c.in-Some._passed) c.requires.few c.requires.few_waivers report
      (subst (λ (waivers : List Waiver). IsNext c.args.walk.now.font waivers c.loop-fault.walk.mark (fault_value c.in-Some._passed))
      c.loop-fault.invariant.waivers
      (subst (λ (font : CheckedFont). IsNext font c.loop-fault.walk.waivers c.loop-fault.walk.mark (fault_value c.in-Some._passed))
      c.loop-fault.invariant.font c.in-Some.ensures.next))
      (c.loop-fault.invariant.passed faults report first));
}
