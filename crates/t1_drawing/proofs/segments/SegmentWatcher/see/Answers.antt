use Rattle.std.proofs.Common.{ℕ, List, ◌++◌, ◌∙◌, ap, get_or, subst, sym, take}
use Rattle.t1_outline.specs.declared.segment.Segment.{Segment}
use Rattle.t1_outline.specs.declared.segment.Segment.TheVariants.{Move}
use Rattle.t1_rules.specs.StepRules.Flex.{origin}
use Rattle.t1_drawing.specs.Drawings.{faults_in}
use Rattle.t1_drawing.specs.Private.Standing.{SegmentsStandFor}
use Rattle.t1_drawing.proofs.Drawing.{drawn_at, faults_more, longer, taken}
use Rattle.t1_drawing.proofs.segments.SegmentWatcher.see.Goals as goal

pub loop-segment-preserved : goal.loop-segment-preserved
loop-segment-preserved c =
    let here : List Segment = c.args.here.now in
    let i : ℕ = c.loop-segment.segment-index in
    let none : Segment = Move origin in
    let within = c.loop-segment-test.true in
    record {
      stands = λ box before st can.
          subst (SegmentsStandFor box c.see_one.new.self) (sym (longer before here i none within))
          (c.see_one.ensures.stands box (before ++ take i here) (c.loop-segment.invariant.stands box before st can)
          (drawn_at before here i none within can));
      faults = λ box before st can.
          c.join-faults.ensures
          ∙ rw (
            c.loop-segment.invariant.faults box before st can,
            c.see_one.ensures.faults box (before ++ take i here) (c.loop-segment.invariant.stands box before st can)
                (drawn_at before here i none within can),
          ) (faults_more box before (take i here) (get_or here i none))
          ∙ ap (faults_in box before) (sym (taken here i none within));
    }
