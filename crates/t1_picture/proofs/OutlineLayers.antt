-- The layer of the outline, part by part.
use Rattle.std.proofs.Common.{◌≡◌, ◌&&◌, ◌+◌, ℕ, Bool, cond, true, false, List, [], ◌∷◌, ◌++◌, length, map, take, refl, sym, ap, ◌∙◌, arith, append_assoc, append-nil}
use Rattle.std.proofs.lemmas.Grind.{flat_map-append}
use Rattle.std.proofs.lemmas.List.{length-take, take_all}
use Rattle.std.proofs.lemmas.List.Folds.{flat_map-map}
use Rattle.std.specs.List.{flat_map}
use Rattle.t1_char.proofs.EditionLemmas.{limit_few}
use Rattle.t1_char.specs.Editions.{limit_of}
use Rattle.t1_char.specs.Steps.{StepView, steps_of}
use Rattle.t1_outline.specs.declared.segment.Segment.{Segment}
use Rattle.t1_outline.specs.Outlines.{DrawnView, drawn, drawn_from, drawn_of, placed as drawn_at}
use Rattle.t1_picture.proofs.PartLayers.{of_picture}
use Rattle.t1_picture.specs.Drawings.{all_steps}
use Rattle.t1_picture.specs.Laws.{OutlineIsThatOfItsParts, WholePartsAreOutlines}
use Rattle.t1_picture.specs.Layers.{LayersView, begun, segment_text, with_gap, with_segment, with_segments}
use Rattle.t1_picture.specs.Parts.{PartView, drawn_steps, is_step, part_outline, with_gap_if, with_part, with_step, with_steps}
use Rattle.t1_picture.specs.Subpaths.{placed}
use Rattle.t1_rules.specs.declared.step_rules.flex.Point.{Point}
use Rattle.t1_rules.specs.StepRules.Paths.{leaves_open}

-- ---- steps

abbrev segment_of : PartView → DrawnView → List ℕ
segment_of part d = segment_text (placed part.origin d.segment)

of_segments : (start : Point) (thick : Bool) (l : LayersView) (segments : List Segment)
    → (with_segments start thick l segments).outline ≡ l.outline ++ flat_map (λ s. segment_text (placed start s)) segments
of_segments start thick l [] = sym (append-nil l.outline)
of_segments start thick l (segment ∷ segments) =
    of_segments start thick (with_segment thick l (placed start segment)) segments
    ∙ append_assoc l.outline (segment_text (placed start segment)) (flat_map (λ s. segment_text (placed start s)) segments)

gap_kept : (test : Bool) (l : LayersView) → (cond test (with_gap l) l).outline ≡ l.outline
gap_kept true l = refl
gap_kept false l = refl

of_step : (part : PartView) (number : ℕ) (leaves_open : Bool) (segments : List Segment) (l : LayersView)
    → (with_step part number leaves_open segments l).outline ≡ l.outline ++ flat_map (λ s. segment_text (placed part.origin s)) segments
of_step part number leaves_open segments l =
    of_segments part.origin (is_step part.thick number) (with_gap_if leaves_open l) segments
    ∙ ap (λ (o : List ℕ). o ++ flat_map (λ s. segment_text (placed part.origin s)) segments) (gap_kept (leaves_open && l.subpath.is_drawn) l)

of_drawn : (part : PartView) (number : ℕ) (path : List ℕ) (segments : List Segment) (more : List DrawnView)
    → flat_map (segment_of part) (map (drawn_at number path) segments ++ more)
    ≡ flat_map (λ s. segment_text (placed part.origin s)) segments ++ flat_map (segment_of part) more
of_drawn part number path segments more =
    flat_map-append (segment_of part) (map (drawn_at number path) segments) more
    ∙ ap (λ (o : List ℕ). o ++ flat_map (segment_of part) more) (flat_map-map (segment_of part) (drawn_at number path) segments)

of_steps : (part : PartView) (l : LayersView) (before steps : List StepView)
    → (with_steps part l before steps).outline ≡ l.outline ++ flat_map (segment_of part) (drawn_from before steps)
of_steps part l before [] = sym (append-nil l.outline)
of_steps part l before (step ∷ steps) =
    let own = flat_map (λ (s : Segment). segment_text (placed part.origin s)) (drawn before step) in
    let others = flat_map (segment_of part) (drawn_from (before ++ step ∷ []) steps) in
    of_steps part (with_step part (length before + 1) (leaves_open before step) (drawn before step) l) (before ++ step ∷ []) steps
    ∙ ap (λ (o : List ℕ). o ++ others) (of_step part (length before + 1) (leaves_open before step) (drawn before step) l)
    ∙ append_assoc l.outline own others
    ∙ ap (λ (o : List ℕ). l.outline ++ o)
    (sym (of_drawn part (length before + 1) step.path (drawn before step) (drawn_from (before ++ step ∷ []) steps)))

pub of_part : (part : PartView) (l : LayersView) → (with_part part l).outline ≡ l.outline ++ part_outline part
of_part part l = of_steps part (begun l) [] (drawn_steps part)

-- ---- components

pub outline_is_that_of_its_parts : OutlineIsThatOfItsParts
outline_is_that_of_its_parts = of_picture (λ (l : LayersView). l.outline) part_outline (record { of_part = of_part; called = λ s called p. refl })

-- ---- all steps

pub whole_parts_are_outlines : WholePartsAreOutlines
whole_parts_are_outlines part whole =
    let steps = take (limit_of part.edition) (steps_of part.font part.glyph) in
    ap drawn_of
    (ap (λ (n : ℕ). take n steps) whole
    ∙ take_all all_steps steps
    (omega (arith, length-take (limit_of part.edition) (steps_of part.font part.glyph), limit_few part.edition)))
