-- Which definition tells of which rule on the drawing.
use Rattle.std.proofs.Common.{◌≡◌, ◌⊎◌, inl, inr, Option, List, refl}
use Rattle.t1_char.specs.Steps.{StepView}
use Rattle.t1_drawing.specs.declared.font_box.FontBox.{FontBox}
use Rattle.t1_drawing.specs.Drawings.{traced}
use Rattle.t1_drawing.specs.Strokes.{segments_of}
use Rattle.t1_outline.specs.Outlines.{drawn}
use Rattle.t1_rules.specs.declared.rule.Rule.{Rule}
use Rattle.t1_rules.specs.declared.rule.Rule.TheVariants.{P05, P11, H08, H09, H10}
use Rattle.t1_reasons.specs.DrawingReasons.{told_of_segments, told_of_steps, told_on_drawing}

pub by_steps : (box : Option FontBox) (rule : Rule) (before : List StepView) (step : StepView)
    → (rule ≡ P11) ⊎ ((rule ≡ H09) ⊎ (rule ≡ H10)) → told_of_steps rule before step ≡ told_on_drawing box rule before step
by_steps box rule before step (inl is) = rw is refl
by_steps box rule before step (inr (inl is)) = rw is refl
by_steps box rule before step (inr (inr is)) = rw is refl

pub by_segments : (box : Option FontBox) (rule : Rule) (before : List StepView) (step : StepView)
    → (rule ≡ P05 → ⊥) → (rule ≡ H08 → ⊥) → (rule ≡ P11 → ⊥) → (rule ≡ H09 → ⊥) → (rule ≡ H10 → ⊥)
    → told_on_drawing box rule before step ≡ told_of_segments box rule (traced box (segments_of before) (drawn before step))
by_segments box P05 before step not_area not_stem not_move not_edge not_width = absurd (not_area refl)
by_segments box H08 before step not_area not_stem not_move not_edge not_width = absurd (not_stem refl)
by_segments box P11 before step not_area not_stem not_move not_edge not_width = absurd (not_move refl)
by_segments box H09 before step not_area not_stem not_move not_edge not_width = absurd (not_edge refl)
by_segments box H10 before step not_area not_stem not_move not_edge not_width = absurd (not_width refl)
by_segments box _ before step not_area not_stem not_move not_edge not_width = refl
