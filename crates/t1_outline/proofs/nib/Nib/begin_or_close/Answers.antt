use Rattle.std.proofs.Common.{refl, sym, ap, ◌∷◌, [], ◌∙◌}
use Rattle.t1_char.specs.StepValues.{step_view}
use Rattle.t1_outline.specs.declared.segment.Segment.TheVariants.{Move}
use Rattle.t1_outline.proofs.LoneStrokes.{begun, closed_there, nib_goes_on}
use Rattle.t1_outline.proofs.nib.Nib.begin_or_close.Goals as goal

pub returns-then-self-clause-drawn : goal.returns-then-self-clause-drawn
returns-then-self-clause-drawn c = λ before st outside is end.
    begun before (step_view c.args.step.now) outside is (sym c.is_move-self.ensures ∙ c.if-self.true) ∙ ap (λ p. Move p ∷ []) (sym end)

pub returns-then-self-clause-stands : goal.returns-then-self-clause-stands
returns-then-self-clause-stands c = λ before st outside is.
    nib_goes_on before (step_view c.args.step.now) outside is c.args.self.now _ refl c.is_move-self.ensures st

pub returns-else-self-clause-drawn : goal.returns-else-self-clause-drawn
returns-else-self-clause-drawn c = λ before st outside is end.
    closed_there before (step_view c.args.step.now) outside is (sym c.is_move-self.ensures ∙ c.if-self.false)

pub returns-else-self-clause-stands : goal.returns-else-self-clause-stands
returns-else-self-clause-stands c = λ before st outside is.
    nib_goes_on before (step_view c.args.step.now) outside is c.args.self.now _ refl c.is_move-self.ensures st
