use Rattle.std.proofs.Common.{◌≡◌, ◌+◌, Some, suc, set, map, take, ap, subst, ◌∙◌, sym, true, arith}
use Rattle.std.proofs.lemmas.Bool.{and_parts}
use Rattle.std.proofs.lemmas.List.{take_all}
use Rattle.t1_drawing.specs.Private.Watching.{all_touched, touched_by}
use Rattle.t1_drawing.proofs.Mapped.{mapped_all, mapped_more, mapped_to}
use Rattle.t1_drawing.proofs.Touches.{touched_more}
use Rattle.t1_drawing.proofs.touching.touch_all.Goals as goal

pub loop-stem-preserved : goal.loop-stem-preserved
loop-stem-preserved c =
    let f = touched_by (Some c.args.extent) in
    let i = c.loop-stem.stem-index in
    let one : i + 1 ≡ suc i = omega arith in
    record {
      stems =
          ap (λ v. set c.loop-stem.stems i v) (c.see-all.ensures.stem c.args.extent c.reach-reach.ensures)
          ∙ rw c.loop-stem.invariant.stems (mapped_more f i c.args.stems.now _ (omega arith))
          ∙ ap (λ n. mapped_to f n c.args.stems.now) (sym one);
      all = λ all.
          let parts = and_parts c.see-all.result c.loop-stem.all all in
          let last = rw c.loop-stem.invariant.stems at (sym (ap (λ s. s.touched) (c.see-all.ensures.stem c.args.extent c.reach-reach.ensures)) ∙ (sym c.see-all.ensures.touched ∙ parts.0)) in
          subst (λ n. all_touched (map f (take n c.args.stems.now)) ≡ true) (sym one)
          (touched_more f i c.args.stems.now _ (omega arith) (c.loop-stem.invariant.all parts.1) last);
    }

pub returns-clause-stems : goal.returns-clause-stems
returns-clause-stems c = c.loop-stem.invariant.stems ∙ mapped_all (touched_by (Some c.args.extent)) c.loop-stem.stem-index c.args.stems.now (omega arith)

pub returns-clause-all : goal.returns-clause-all
returns-clause-all c = λ all.
    let f = touched_by (Some c.args.extent) in
    let i = c.loop-stem.stem-index in
    subst (λ stems. all_touched stems ≡ true)
    (ap (map f) (take_all i c.args.stems.now (omega arith)) ∙ sym (c.loop-stem.invariant.stems ∙ mapped_all f i c.args.stems.now (omega arith)))
    (c.loop-stem.invariant.all all)
