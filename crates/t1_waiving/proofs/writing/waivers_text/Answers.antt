use Rattle.std.proofs.Common.{◌≡◌, ◌+◌, ◌∙◌, ◌&&◌, ℕ, Bool, true, false, List, ap, arith, subst, sym, refl}
use Rattle.t1_report.proofs.GivenFaults.{all_given, most_given}
use Rattle.t1_report.specs.Checked.{CheckedFont, checked}
use Rattle.t1_report.specs.Faults.{FaultValue, fault_value}
use Rattle.t1_report.specs.Lines.{IsInFont}
use Rattle.t1_report.specs.WalkViews.{WalkView}
use Rattle.t1_report.specs.Waivers.{Waiver}
use Rattle.t1_report.specs.Walks.{HasNoneLater, IsNext, mark_of}
use Rattle.t1_report.specs.declared.marks.Mark.{Mark}
use Rattle.t1_rules.specs.Book.{number_of}
use Rattle.t1_rules.specs.Mask.{has}
use Rattle.t1_waiving.proofs.WrittenOnce.{HaveWaived, none_waived, one_passed, one_waived}
use Rattle.t1_waiving.proofs.writing.waivers_text.Goals as goal
use Rattle.t1_waiving.proofs.writing.waivers_text.Goals.{then-has+then-is_in_glyph+in_ok-add, else-has, else-has-via-then-has+else-is_in_glyph, else-has-via-else-has, else-loop-fault-test, then-loop-fault-test+in_default}
use Rattle.t1_waiving.specs.GlyphLines.{is_in_glyph}
use Rattle.t1_waiving.specs.declared.writing.Written.{Written}
use Rattle.t1_waiving.specs.Reports.{report_text}

and_false : (a b : Bool) → b ≡ false → (a && b) ≡ false
and_false true b is = is
and_false false b is = refl

pub loop-fault-init : goal.loop-fault-init
loop-fault-init c = record {
  font = c.begin-walk.ensures.font;
  waivers = c.begin-walk.ensures.waivers;
  have = none_waived c.args.rules _ _ c.begin-walk.result.mark c.empty.result c.new.result.items c.begin-walk.ensures.mark c.empty.ensures
      c.new.ensures.items;
}

pub loop-fault-preserved : goal.loop-fault-preserved
loop-fault-preserved c =
    let font = checked c.args.font.now c.args.sidebearings.now.edition in
    let next : IsNext font c.args.waivers.now c.loop-fault.walk.mark (fault_value c.in-Some.fault) =
    subst (λ (waivers : List Waiver). IsNext font waivers c.loop-fault.walk.mark (fault_value c.in-Some.fault)) c.loop-fault.invariant.waivers
    (subst (λ (f : CheckedFont). IsNext f c.loop-fault.walk.waivers c.loop-fault.walk.mark (fault_value c.in-Some.fault))
    c.loop-fault.invariant.font c.in-Some.ensures.next) in
    let in_font : IsInFont c.args.font.now c.loop-fault.walk.waivers (fault_value c.in-Some.fault) =
    subst (λ (f : CheckedFont). IsInFont f.value c.loop-fault.walk.waivers (fault_value c.in-Some.fault))
    c.loop-fault.invariant.font c.in-Some.ensures.in_font in
    record {
      font = ap (λ (w : WalkView). w.font) c.in-Some.ensures.state ∙ c.loop-fault.invariant.font;
      waivers = ap (λ (w : WalkView). w.waivers) c.in-Some.ensures.state ∙ c.loop-fault.invariant.waivers;
      have = subst (λ (mark : Mark). HaveWaived c.args.rules font c.args.waivers.now (c.loop-fault._fault + 1) mark
          c.if-has.written.unit c.if-has.written.rules c.if-has.written.text.items)
          (sym (ap (λ (w : WalkView). w.mark) c.in-Some.ensures.state))
          (elim c.if-has.branch [
            | then-has+then-is_in_glyph+in_ok-add w ↦
                subst (λ (written : Written). HaveWaived c.args.rules font c.args.waivers.now (c.loop-fault._fault + 1) (mark_of (fault_value c.in-Some.fault))
                written.unit written.rules written.text.items) (sym w.written-is)
                (subst (λ (last : ℕ). HaveWaived c.args.rules font c.args.waivers.now (c.loop-fault._fault + 1) (mark_of (fault_value c.in-Some.fault))
                last w.add.new.self.rules w.add.new.self.text.items) (sym w.in_ok-add.ensures.unit)
                (one_waived c.args.rules font c.args.waivers.now c.requires.names c.loop-fault._fault c.loop-fault.walk.mark c.loop-fault.written.unit
                c.loop-fault.written.rules c.loop-fault.written.text.items c.loop-fault.invariant.have (fault_value c.in-Some.fault) next
                (sym c.has.ensures ∙ w.if-has.true) (sym w.is_in_glyph.ensures ∙ w.if-is_in_glyph.true) w.add.new.self.rules
                w.add.new.self.text.items in_font.unit w.in_ok-add.ensures.rules w.in_ok-add.ensures.text))
            | else-has w ↦
                subst (λ (written : Written). HaveWaived c.args.rules font c.args.waivers.now (c.loop-fault._fault + 1) (mark_of (fault_value c.in-Some.fault))
                written.unit written.rules written.text.items) (sym w.written-is)
                (one_passed c.args.rules font c.args.waivers.now c.requires.names c.loop-fault._fault c.loop-fault.walk.mark c.loop-fault.written.unit
                c.loop-fault.written.rules c.loop-fault.written.text.items c.loop-fault.invariant.have (fault_value c.in-Some.fault) next
                (elim w.else-has.branch [
                  | else-has-via-then-has+else-is_in_glyph v ↦ and_false (has c.args.rules (number_of c.in-Some.fault.rule)) _ (sym v.is_in_glyph.ensures ∙ v.if-is_in_glyph.false)
                  | else-has-via-else-has v ↦ ap (λ (b : Bool). b && is_in_glyph c.args.font.now (fault_value c.in-Some.fault)) (sym c.has.ensures ∙ v.if-has.false)
                ]))
          ]);
    }

pub returns : goal.returns
returns c =
    let font = checked c.args.font.now c.args.sidebearings.now.edition in
    let have = c.loop-fault.invariant.have in
    elim c.loop-fault-test.branch [
      | else-loop-fault-test w ↦
          let some = c.each_font_has_a_report.ensures font c.args.waivers.now in
          let same = most_given font c.args.waivers.now c.requires.few c.requires.few_waivers c.marks_count_the_faults_given.ensures.start
          c.marks_count_the_faults_given.ensures.given some.0 some.1 have.given c.loop-fault._fault c.loop-fault.walk.mark have.is
          (omega (arith, w.loop-fault-test.false)) in (
            some.0,
            some.1,
            have.text_is ∙ ap (λ (fs : List FaultValue). report_text c.args.rules c.args.font.now c.args.waivers.now fs) same,
          )
      | then-loop-fault-test+in_default w ↦
          let none : HasNoneLater font c.args.waivers.now c.loop-fault.walk.mark =
          subst (λ (waivers : List Waiver). HasNoneLater font waivers c.loop-fault.walk.mark) c.loop-fault.invariant.waivers
          (subst (λ (f : CheckedFont). HasNoneLater f c.loop-fault.walk.waivers c.loop-fault.walk.mark) c.loop-fault.invariant.font
          w.in_default.ensures.next) in (
            have.given,
            all_given font c.args.waivers.now c.requires.few c.requires.few_waivers c.faults_after_the_first_mark_are_the_report.ensures
                have.given c.loop-fault._fault c.loop-fault.walk.mark have.is none,
            have.text_is,
          )
    ]
