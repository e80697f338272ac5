use Rattle.std.proofs.Common.{◌≡◌, ◌++◌, ℕ, List, Option, String, ap, ◌∙◌}
use Rattle.std.specs.declared.alloc.Global.{Global}
use Rattle.t1_outline.specs.declared.composition.Composition.{Composition}
use Rattle.t1_outline.specs.declared.parts.SeacParts.{SeacParts}
use Rattle.t1_outline.specs.Parts.{composition_of, seac_parts_in}
use Rattle.t1_picture.specs.Drawings.{components_of, drawing_of, notes_of_components, own_composition, own_part, texts_of, with_components}
use Rattle.t1_picture.specs.Layers.{LayersView, no_layers}
use Rattle.t1_picture.specs.Private.PartViews.{part_view}
use Rattle.t1_picture.specs.Parts.{PartView, drawn_steps, last_step_of, part_notes, with_part}
use Rattle.t1_picture.specs.Subjects.{subject_of}
use Rattle.t1_picture.proofs.Made.{same_drawing}
use Rattle.t1_picture.proofs.drawing.Drawing.of.Goals as goal

pub returns : goal.returns
returns c =
    let s = subject_of c.args.view.now in
    let part : part_view c.own_part.result ≡ own_part s = c.own_part.ensures.part in
    let composed : c.in_ok-end.end.composition ≡ own_composition s =
    c.in_ok-end.ensures.composition ∙ ap (λ (p : PartView). composition_of (drawn_steps p)) part in
    let components : c.seac_parts-components.result ≡ components_of s =
    c.seac_parts-components.ensures.value ∙ ap (λ (k : Composition). seac_parts_in s.font k) composed in
    same_drawing _ (drawing_of s)
    (c.in_ok-draw_components.ensures.layers
    ∙ ap (λ (l : LayersView). with_components s c.seac_parts-components.result l)
    (c.in_ok-end.ensures.layers ∙ ap (λ (l : LayersView). with_part (part_view c.own_part.result) l) c.new-layers.ensures
    ∙ ap (λ (p : PartView). with_part p no_layers) part)
    ∙ ap (λ (o : Option SeacParts). with_components s o (with_part (own_part s) no_layers)) components)
    (c.in_ok-draw_components.ensures.notes
    ∙ ap (λ (ns : List (List ℕ)). ns ++ notes_of_components s c.seac_parts-components.result)
    (c.in_ok-end.ensures.notes
    ∙ ap (λ (items : List (String Global)). texts_of items ++ part_notes (part_view c.own_part.result)) c.new-notes.ensures.items
    ∙ ap part_notes part)
    ∙ ap (λ (o : Option SeacParts). part_notes (own_part s) ++ notes_of_components s o) components)
    composed
    (c.in_ok-end.ensures.last_step ∙ ap last_step_of part)
