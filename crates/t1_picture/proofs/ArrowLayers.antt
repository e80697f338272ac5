-- The layer of the arrows, part by part.
use Rattle.std.proofs.Common.{◌≡◌, ◌&&◌, ◌+◌, ℕ, Bool, cond, true, false, List, [], ◌∷◌, ◌++◌, length, map, refl, sym, ap, ◌∙◌, append_assoc, append-nil}
use Rattle.std.proofs.lemmas.List.{map-append}
use Rattle.t1_char.specs.Steps.{StepView}
use Rattle.t1_outline.specs.declared.segment.Segment.{Segment}
use Rattle.t1_outline.specs.Outlines.{DrawnView, drawn, drawn_from, placed as drawn_at}
use Rattle.t1_picture.specs.declared.subpath.Subpath.{Subpath}
use Rattle.t1_picture.specs.Arrows.{arrow_text, arrows_from, drawn_on}
use Rattle.t1_picture.proofs.PartLayers.{of_picture}
use Rattle.t1_picture.specs.Laws.{ArrowsAreThoseOfItsParts}
use Rattle.t1_picture.specs.Layers.{LayersView, begun, with_gap, with_segment, with_segments}
use Rattle.t1_picture.specs.Parts.{PartView, drawn_steps, is_step, part_arrows, placed_in, with_gap_if, with_part, with_step, with_steps}
use Rattle.t1_picture.specs.Subpaths.{gone_on, placed}
use Rattle.t1_rules.specs.declared.step_rules.flex.Point.{Point}
use Rattle.t1_rules.specs.StepRules.Paths.{leaves_open}

-- ---- segments

arrows_of_both : (before : Subpath) (xs ys : List Segment) → arrows_from before (xs ++ ys) ≡ arrows_from before xs ++ arrows_from (drawn_on before xs) ys
arrows_of_both before [] ys = refl
arrows_of_both before (x ∷ xs) ys =
    ap (λ (o : List ℕ). arrow_text before x ++ o) (arrows_of_both (gone_on before x) xs ys)
    ∙ sym (append_assoc (arrow_text before x) (arrows_from (gone_on before x) xs) (arrows_from (drawn_on (gone_on before x) xs) ys))

of_segments : (start : Point) (thick : Bool) (l : LayersView) (segments : List Segment)
    → (with_segments start thick l segments).arrows ≡ l.arrows ++ arrows_from l.subpath (map (placed start) segments)
of_segments start thick l [] = sym (append-nil l.arrows)
of_segments start thick l (segment ∷ segments) =
    of_segments start thick (with_segment thick l (placed start segment)) segments
    ∙ append_assoc l.arrows (arrow_text l.subpath (placed start segment))
    (arrows_from (gone_on l.subpath (placed start segment)) (map (placed start) segments))

subpath_of : (start : Point) (thick : Bool) (l : LayersView) (segments : List Segment)
    → (with_segments start thick l segments).subpath ≡ drawn_on l.subpath (map (placed start) segments)
subpath_of start thick l [] = refl
subpath_of start thick l (segment ∷ segments) = subpath_of start thick (with_segment thick l (placed start segment)) segments

-- ---- steps

arrows_kept : (test : Bool) (l : LayersView) → (cond test (with_gap l) l).arrows ≡ l.arrows
arrows_kept true l = refl
arrows_kept false l = refl

subpath_kept : (test : Bool) (l : LayersView) → (cond test (with_gap l) l).subpath ≡ l.subpath
subpath_kept true l = refl
subpath_kept false l = refl

of_step : (part : PartView) (number : ℕ) (leaves_open : Bool) (segments : List Segment) (l : LayersView)
    → (with_step part number leaves_open segments l).arrows ≡ l.arrows ++ arrows_from l.subpath (map (placed part.origin) segments)
of_step part number leaves_open segments l =
    let before = with_gap_if leaves_open l in
    of_segments part.origin (is_step part.thick number) before segments
    ∙ ap (λ (o : List ℕ). o ++ arrows_from before.subpath (map (placed part.origin) segments)) (arrows_kept (leaves_open && l.subpath.is_drawn) l)
    ∙ ap (λ (b : Subpath). l.arrows ++ arrows_from b (map (placed part.origin) segments)) (subpath_kept (leaves_open && l.subpath.is_drawn) l)

subpath_of_step : (part : PartView) (number : ℕ) (leaves_open : Bool) (segments : List Segment) (l : LayersView)
    → (with_step part number leaves_open segments l).subpath ≡ drawn_on l.subpath (map (placed part.origin) segments)
subpath_of_step part number leaves_open segments l =
    subpath_of part.origin (is_step part.thick number) (with_gap_if leaves_open l) segments
    ∙ ap (λ (b : Subpath). drawn_on b (map (placed part.origin) segments)) (subpath_kept (leaves_open && l.subpath.is_drawn) l)

own_segments : (part : PartView) (number : ℕ) (path : List ℕ) (segments : List Segment)
    → map (placed_in part) (map (drawn_at number path) segments) ≡ map (placed part.origin) segments
own_segments part number path [] = refl
own_segments part number path (x ∷ xs) = ap (λ (o : List Segment). placed part.origin x ∷ o) (own_segments part number path xs)

of_drawn : (part : PartView) (number : ℕ) (path : List ℕ) (segments : List Segment) (more : List DrawnView)
    → map (placed_in part) (map (drawn_at number path) segments ++ more) ≡ map (placed part.origin) segments ++ map (placed_in part) more
of_drawn part number path segments more =
    map-append (placed_in part) (map (drawn_at number path) segments) more
    ∙ ap (λ (o : List Segment). o ++ map (placed_in part) more) (own_segments part number path segments)

of_steps : (part : PartView) (l : LayersView) (before steps : List StepView)
    → (with_steps part l before steps).arrows ≡ l.arrows ++ arrows_from l.subpath (map (placed_in part) (drawn_from before steps))
of_steps part l before [] = sym (append-nil l.arrows)
of_steps part l before (step ∷ steps) =
    let number = length before + 1 in
    let next = with_step part number (leaves_open before step) (drawn before step) l in
    let own = map (placed part.origin) (drawn before step) in
    let others = map (placed_in part) (drawn_from (before ++ step ∷ []) steps) in
    of_steps part next (before ++ step ∷ []) steps
    ∙ ap (λ (o : List ℕ). o ++ arrows_from next.subpath others) (of_step part number (leaves_open before step) (drawn before step) l)
    ∙ ap (λ (b : Subpath). (l.arrows ++ arrows_from l.subpath own) ++ arrows_from b others)
    (subpath_of_step part number (leaves_open before step) (drawn before step) l)
    ∙ append_assoc l.arrows (arrows_from l.subpath own) (arrows_from (drawn_on l.subpath own) others)
    ∙ ap (λ (o : List ℕ). l.arrows ++ o) (sym (arrows_of_both l.subpath own others))
    ∙ ap (λ (ss : List Segment). l.arrows ++ arrows_from l.subpath ss)
    (sym (of_drawn part number step.path (drawn before step) (drawn_from (before ++ step ∷ []) steps)))

of_part : (part : PartView) (l : LayersView) → (with_part part l).arrows ≡ l.arrows ++ part_arrows part
of_part part l = of_steps part (begun l) [] (drawn_steps part)

-- ---- components

pub arrows_are_those_of_its_parts : ArrowsAreThoseOfItsParts
arrows_are_those_of_its_parts = of_picture (λ (l : LayersView). l.arrows) part_arrows (record { of_part = of_part; called = λ s called p. refl })
