-- A layer to which each part of a picture adds what is its own: that of the glyph, and those of its components.
use Rattle.std.proofs.Common.{◌≡◌, ℕ, codes, Option, None, Some, List, [], ◌++◌, sym, ap, ◌∙◌, append_assoc, append-nil}
use Rattle.std.proofs.lemmas.Grind.{flat_map-append}
use Rattle.std.specs.List.{flat_map}
use Rattle.t1_outline.specs.declared.parts.Part.{Part}
use Rattle.t1_outline.specs.declared.parts.SeacPart.{SeacPart}
use Rattle.t1_outline.specs.declared.parts.SeacPart.TheVariants.{NoCode, NoGlyph, NoName, There}
use Rattle.t1_outline.specs.declared.parts.SeacParts.{SeacParts}
use Rattle.t1_outline.specs.Parts.{part_of, parts_of_both}
use Rattle.t1_picture.specs.Drawings.{called_part, component_part, components_of, own_part, with_component, with_components}
use Rattle.t1_picture.specs.Layers.{LayersView, no_layers}
use Rattle.t1_picture.specs.Parts.{PartView, with_part}
use Rattle.t1_picture.specs.Subjects.{Subject}

-- What a part adds doesn't depend on what it is called.
pub record IsOfParts (layer : LayersView → List ℕ) (own : PartView → List ℕ) : Type 0 where
  pub of_part : (part : PartView) (l : LayersView) → layer (with_part part l) ≡ layer l ++ own part
  pub called : (s : Subject) (called : List ℕ) (p : Part) → own (called_part s called p) ≡ own (component_part s [] p)

abbrev own_in : (PartView → List ℕ) → Subject → Part → List ℕ
own_in own s p = own (component_part s [] p)

of_component : (layer : LayersView → List ℕ) (own : PartView → List ℕ) → IsOfParts layer own → (s : Subject) (called : List ℕ) (component : SeacPart) (l : LayersView)
    → layer (with_component s called component l) ≡ layer l ++ flat_map (own_in own s) (part_of component)
of_component layer own is s called (There p) l =
    is.of_part (called_part s called p) l ∙ ap (λ (o : List ℕ). layer l ++ o) (is.called s called p ∙ sym (append-nil (own_in own s p)))
of_component layer own is s called NoCode l = sym (append-nil (layer l))
of_component layer own is s called (NoName code) l = sym (append-nil (layer l))
of_component layer own is s called (NoGlyph code) l = sym (append-nil (layer l))

of_components : (layer : LayersView → List ℕ) (own : PartView → List ℕ) → IsOfParts layer own → (s : Subject) (components : Option SeacParts) (l : LayersView)
    → layer (with_components s components l) ≡ layer l ++ flat_map (own_in own s) (parts_of_both components)
of_components layer own is s None l = sym (append-nil (layer l))
of_components layer own is s (Some seac) l =
    let base = flat_map (own_in own s) (part_of seac.base) in
    let accent = flat_map (own_in own s) (part_of seac.accent) in
    of_component layer own is s (codes "accent") seac.accent (with_component s (codes "base") seac.base l)
    ∙ ap (λ (o : List ℕ). o ++ accent) (of_component layer own is s (codes "base") seac.base l)
    ∙ append_assoc (layer l) base accent
    ∙ ap (λ (o : List ℕ). layer l ++ o) (sym (flat_map-append (own_in own s) (part_of seac.base) (part_of seac.accent)))

pub of_picture : (layer : LayersView → List ℕ) (own : PartView → List ℕ) → IsOfParts layer own → (s : Subject)
    → layer (with_components s (components_of s) (with_part (own_part s) no_layers))
    ≡ (layer no_layers ++ own (own_part s)) ++ flat_map (own_in own s) (parts_of_both (components_of s))
of_picture layer own is s =
    of_components layer own is s (components_of s) (with_part (own_part s) no_layers)
    ∙ ap (λ (o : List ℕ). o ++ flat_map (own_in own s) (parts_of_both (components_of s))) (is.of_part (own_part s) no_layers)
