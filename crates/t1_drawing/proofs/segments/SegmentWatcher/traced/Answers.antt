use Rattle.std.proofs.Common.{ℕ, List, ◌++◌, ◌≡◌, ◌∙◌, ap, get_or, length, subst, sym, take, arith}
use Rattle.std.proofs.lemmas.List.{length-take-le}
use Rattle.t1_outline.specs.declared.segment.Segment.{Segment}
use Rattle.t1_outline.specs.declared.segment.Segment.TheVariants.{Move}
use Rattle.t1_rules.specs.StepRules.Flex.{origin}
use Rattle.t1_drawing.specs.Drawings.{traced}
use Rattle.t1_drawing.specs.Private.Standing.{SegmentsStandFor}
use Rattle.t1_drawing.proofs.Drawing.{drawn_at, longer, taken, traced_length, traced_more}
use Rattle.t1_drawing.proofs.segments.SegmentWatcher.traced.Goals as goal

pub loop-segment-preserved : goal.loop-segment-preserved
loop-segment-preserved c =
    let here : List Segment = c.args.here.now in
    let i : ℕ = c.loop-segment.segment-index in
    let none : Segment = Move origin in
    let within = c.loop-segment-test.true in
    record {
      stands = λ box before st can.
          subst (SegmentsStandFor box c.see_one-faults.new.self) (sym (longer before here i none within))
          (c.see_one-faults.ensures.stands box (before ++ take i here) (c.loop-segment.invariant.stands box before st can)
          (drawn_at before here i none within can));
      traced = λ box before st can few.
          let stands = c.loop-segment.invariant.stands box before st can in
          let earlier = c.loop-segment.invariant.traced box before st can few in
          let all : length (take i here) ≡ i = length-take-le i here (omega (arith, within)) in
          let fits = ap length earlier ∙ traced_length box before (take i here) ∙ all in
          c.keep.ensures (omega (arith, fits, few, within))
          ∙ rw (
            earlier,
            stands.line_start,
            stands.start,
            c.see_one-faults.ensures.faults box (before ++ take i here) stands (drawn_at before here i none within can),
          ) (sym (traced_more box before (take i here) (get_or here i none)))
          ∙ ap (traced box before) (sym (taken here i none within));
    }

pub see_one-faults-requires : goal.see_one-faults-requires
see_one-faults-requires c =
    let before = c.requires.1.0 in
    let here : List Segment = c.args.here.now in
    let i : ℕ = c.loop-segment.segment-index in
    let st = c.requires.1.1.0 in
    let can = c.requires.1.1.1 in
    (c.requires.0, (before ++ take i here, (c.loop-segment.invariant.stands c.requires.0 before st can, drawn_at before here i (Move origin) c.loop-segment-test.true can)))
