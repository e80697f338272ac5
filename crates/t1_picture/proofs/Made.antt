-- A drawing, part by part.
use Rattle.std.proofs.Common.{◌≡◌, ℕ, List, Option, ap, ◌∙◌}
use Rattle.t1_outline.specs.declared.composition.Composition.{Composition}
use Rattle.t1_picture.specs.Drawings.{DrawingView}
use Rattle.t1_picture.specs.Layers.{LayersView}

abbrev made : LayersView → List (List ℕ) → Composition → Option (List ℕ) → DrawingView
made layers notes composition last_step =
    record { layers = layers; notes = notes; composition = composition; last_step = last_step }

pub same_drawing : (a b : DrawingView) → a.layers ≡ b.layers → a.notes ≡ b.notes → a.composition ≡ b.composition → a.last_step ≡ b.last_step → a ≡ b
same_drawing a b layers notes composition last_step =
    ap (λ (x : LayersView). made x a.notes a.composition a.last_step) layers
    ∙ ap (λ (x : List (List ℕ)). made b.layers x a.composition a.last_step) notes
    ∙ ap (λ (x : Composition). made b.layers b.notes x a.last_step) composition
    ∙ ap (λ (x : Option (List ℕ)). made b.layers b.notes b.composition x) last_step
