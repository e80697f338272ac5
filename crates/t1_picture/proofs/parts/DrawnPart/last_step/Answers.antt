use Rattle.std.proofs.Common.{◌≡◌, true, ap, sym, ◌∙◌, arith}
use Rattle.t1_char.specs.Steps.{NumberedStep}
use Rattle.t1_picture.specs.declared.parts.Stop.{Stop}
use Rattle.t1_picture.specs.declared.parts.Stop.TheVariants.{Reached, Ended, Limit}
use Rattle.t1_picture.specs.Private.PartViews.{is_reached, part_view}
use Rattle.t1_picture.specs.Texts.{legible_line}
use Rattle.t1_picture.proofs.PartSteps.{last_in_hand}
use Rattle.t1_picture.proofs.parts.DrawnPart.last_step.Goals as goal
use Rattle.t1_report.specs.Traces.{step_line}

was_reached : (stop : Stop) → is_reached stop ≡ true → stop ≡ Reached
was_reached Reached is = cc
was_reached Ended is = cc
was_reached Limit is = cc

pub returns : goal.returns
returns c =
    let reached : c.args.stop ≡ Reached = was_reached c.args.stop (sym c.is_reached.ensures ∙ c.if-not-is_reached.false) in
    last_in_hand (part_view c.args.self.now) c.args.run.now _ c.requires.run (sym c.requires.stop ∙ reached) (c.requires.counted reached)
    (omega (arith, c.if-self-eq0.false)) c.step.ensures.in_hand
    (c.in_ok-step_line.ensures ∙ ap (λ (s : NumberedStep). legible_line (step_line s)) c.step.ensures.value)
