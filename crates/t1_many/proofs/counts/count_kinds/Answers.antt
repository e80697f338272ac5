use Rattle.std.proofs.Common.{◌+◌, ◌∙◌, List, ap, arith, map, subst, sym}
use Rattle.std.specs.List.{AllByRecursion}
use Rattle.t1_many.proofs.FoundKinds.{HaveCounted, none_counted, one_counted, one_left}
use Rattle.t1_report.proofs.GivenFaults.{all_given, most_given}
use Rattle.t1_many.proofs.counts.count_kinds.Goals as goal
use Rattle.t1_many.proofs.counts.count_kinds.Goals.{then-has+in_ok-count_more, else-has, else-loop-fault-test, then-loop-fault-test+in_default}
use Rattle.t1_many.specs.Counts.{counted_more, kind_counts}
use Rattle.t1_many.specs.Known.{kind_in}
use Rattle.t1_many.specs.Private.Counts.{AreCounts}
use Rattle.t1_many.specs.Verdicts.{told_faults}
use Rattle.t1_report.specs.Checked.{CheckedFont, checked}
use Rattle.t1_report.specs.Faults.{FaultValue, fault_value}
use Rattle.t1_report.specs.Lines.{IsInFont}
use Rattle.t1_report.specs.WalkViews.{WalkView}
use Rattle.t1_report.specs.Waivers.{Waiver}
use Rattle.t1_report.specs.Walks.{HasNoneLater, IsNext, mark_of}
use Rattle.t1_report.specs.declared.marks.Mark.{Mark}

pub loop-fault-init : goal.loop-fault-init
loop-fault-init c = record {
  font = c.begin-walk.ensures.font;
  waivers = c.begin-walk.ensures.waivers;
  have = none_counted c.args.rules _ _ _ _ c.begin-walk.ensures.mark (ap kind_counts c.new-counts.ensures.empty);
}

pub kind_of-requires : goal.kind_of-requires
kind_of-requires c =
    subst (λ (waivers : List Waiver). IsInFont c.args.font.now waivers (fault_value c.in-Some.fault)) c.loop-fault.invariant.waivers
    (subst (λ (f : CheckedFont). IsInFont f.value c.loop-fault.walk.waivers (fault_value c.in-Some.fault)) c.loop-fault.invariant.font
    c.in-Some.ensures.in_font)

pub loop-fault-preserved : goal.loop-fault-preserved
loop-fault-preserved c =
    let font = checked c.args.font.now c.args.sidebearings.now.edition in
    let next : IsNext font c.args.waivers.now c.loop-fault.walk.mark (fault_value c.in-Some.fault) =
    subst (λ (waivers : List Waiver). IsNext font waivers c.loop-fault.walk.mark (fault_value c.in-Some.fault)) c.loop-fault.invariant.waivers
    (subst (λ (f : CheckedFont). IsNext f c.loop-fault.walk.waivers c.loop-fault.walk.mark (fault_value c.in-Some.fault))
    c.loop-fault.invariant.font c.in-Some.ensures.next) in
    let in_font : IsInFont c.args.font.now c.args.waivers.now (fault_value c.in-Some.fault) =
    subst (λ (waivers : List Waiver). IsInFont c.args.font.now waivers (fault_value c.in-Some.fault)) c.loop-fault.invariant.waivers
    (subst (λ (f : CheckedFont). IsInFont f.value c.loop-fault.walk.waivers (fault_value c.in-Some.fault)) c.loop-fault.invariant.font
    c.in-Some.ensures.in_font) in
    record {
      font = ap (λ (w : WalkView). w.font) c.in-Some.ensures.state ∙ c.loop-fault.invariant.font;
      waivers = ap (λ (w : WalkView). w.waivers) c.in-Some.ensures.state ∙ c.loop-fault.invariant.waivers;
      have = subst (λ (mark : Mark). HaveCounted c.args.rules font c.args.waivers.now (c.loop-fault._fault + 1) mark
          (kind_counts c.if-has.counts.entries))
          (sym (ap (λ (w : WalkView). w.mark) c.in-Some.ensures.state))
          (elim c.if-has.branch [
            | then-has+in_ok-count_more w ↦
                subst (HaveCounted c.args.rules font c.args.waivers.now (c.loop-fault._fault + 1) (mark_of (fault_value c.in-Some.fault)))
                (sym (ap (λ m. kind_counts m.entries) w.counts-is ∙ w.in_ok-count_more.ensures
                ∙ ap (counted_more (kind_counts c.loop-fault.counts.entries)) w.kind_of.ensures))
                (one_counted c.args.rules font c.args.waivers.now c.loop-fault._fault c.loop-fault.walk.mark _ c.loop-fault.invariant.have
                (fault_value c.in-Some.fault) next in_font c.requires.read (sym c.has.ensures ∙ w.if-has.true))
            | else-has w ↦
                subst (HaveCounted c.args.rules font c.args.waivers.now (c.loop-fault._fault + 1) (mark_of (fault_value c.in-Some.fault)))
                (sym (ap (λ m. kind_counts m.entries) w.counts-is))
                (one_left c.args.rules font c.args.waivers.now c.loop-fault._fault c.loop-fault.walk.mark _ c.loop-fault.invariant.have
                (fault_value c.in-Some.fault) next in_font (sym c.has.ensures ∙ w.if-has.false))
          ]);
    }

pub returns : goal.returns
returns c =
    let font = checked c.args.font.now c.args.sidebearings.now.edition in
    let have = c.loop-fault.invariant.have in
    elim c.loop-fault-test.branch [
      | else-loop-fault-test w ↦
          let some = c.each_font_has_a_report.ensures font c.args.waivers.now in
          let same = most_given font c.args.waivers.now c.requires.read.few c.requires.read.few_waivers c.marks_count_the_faults_given.ensures.start
          c.marks_count_the_faults_given.ensures.given some.0 some.1 have.given c.loop-fault._fault c.loop-fault.walk.mark have.is
          (omega (arith, w.loop-fault-test.false)) in (
            some.0,
            some.1,
            subst (AllByRecursion (IsInFont c.args.font.now c.args.waivers.now)) same have.there,
            subst (λ (faults : List FaultValue). AreCounts (map (kind_in c.args.font.now c.args.waivers.now) (told_faults c.args.rules faults))
                (kind_counts c.loop-fault.counts.entries)) same have.counted,
          )
      | then-loop-fault-test+in_default w ↦
          let none : HasNoneLater font c.args.waivers.now c.loop-fault.walk.mark =
          subst (λ (waivers : List Waiver). HasNoneLater font waivers c.loop-fault.walk.mark) c.loop-fault.invariant.waivers
          (subst (λ (f : CheckedFont). HasNoneLater f c.loop-fault.walk.waivers c.loop-fault.walk.mark) c.loop-fault.invariant.font
          w.in_default.ensures.next) in (
            have.given,
            all_given font c.args.waivers.now c.requires.read.few c.requires.read.few_waivers
                c.faults_after_the_first_mark_are_the_report.ensures have.given c.loop-fault._fault c.loop-fault.walk.mark have.is none,
            have.there,
            have.counted,
          )
    ]
