use Rattle.std.proofs.Common.{ap, refl}
use Rattle.t1_char.specs.StepValues.{step_view}
use Rattle.t1_outline.specs.declared.composition.Composition.{Composition}
use Rattle.t1_outline.proofs.PictureParts.{metrics_on, seac_on}
use Rattle.t1_outline.proofs.composition.Composition.see.Goals as goal

pub returns : goal.returns
returns c = λ before is.
    let t = step_view c.args.step.now in
    rw (
      c.metrics_with-self.ensures,
      c.seac_with-self.ensures,
      ap (λ (known : Composition). known.metrics) is,
      ap (λ (known : Composition). known.seac) is,
      metrics_on before t,
      seac_on before t,
    )
    refl
