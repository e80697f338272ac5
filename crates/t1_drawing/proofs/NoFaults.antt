-- A step that does none of what the rules on the drawing speak of breaks none of them.
use Rattle.std.proofs.Common.{◌≡◌, ℕ, ◌||◌, not, Bool, true, false, Option, List, refl, sym, ap, ◌∙◌}
use Rattle.t1_char.specs.Steps.{StepView}
use Rattle.t1_drawing.specs.declared.font_box.FontBox.{FontBox}
use Rattle.t1_drawing.specs.declared.glyph.DrawingFaults.{DrawingFaults}
use Rattle.t1_drawing.specs.Curves.{is_flat, lacks_extreme}
use Rattle.t1_drawing.specs.DrawingRules.{drawing_rules, ends_clockwise, ends_untouched}
use Rattle.t1_drawing.specs.FontBoxes.{is_first_outside}
use Rattle.t1_drawing.specs.Lines.{goes_straight_on, has_no_length, turns_back}
use Rattle.t1_drawing.specs.Moves.{moves_again}
use Rattle.t1_drawing.specs.Segments.{Test, one_in}
use Rattle.t1_drawing.specs.StemEdges.{sets_adjacent, sets_negative_width}
use Rattle.t1_drawing.specs.Strokes.{segments_of}
use Rattle.t1_outline.specs.Outlines.{drawn}
use Rattle.t1_drawing.specs.Private.Joined.{are_none, drawing_faults}
use Rattle.t1_rules.specs.StepRules.{breaks}

neither : (a b : Bool) → (a || b) ≡ false → (a ≡ false) × (b ≡ false)
neither false false is = (refl, refl)
neither true b is = let no : true ≡ false = is in cc
neither false true is = let no : true ≡ false = is in cc

none_is : (b : Bool) → not b ≡ true → b ≡ false
none_is false is = refl
none_is true is = let no : false ≡ true = is in cc

-- A segment of the step is such a segment.
abbrev drawn_is : Test → List StepView → StepView → Bool
drawn_is test before step = one_in test (segments_of before) (drawn before step)

pub none_broken : (faults : DrawingFaults) (box : Option FontBox) (before : List StepView) (step : StepView) → faults ≡ drawing_faults box before step
    → are_none faults ≡ true → (n : ℕ) → breaks (drawing_rules box) n before step ≡ false
unfolding drawing_rules
none_broken faults box before step same none n =
    let those : are_none (drawing_faults box before step) ≡ true = sym (ap are_none same) ∙ none in
    let negative = neither _ _ (none_is _ those) in
    let adjacent = neither _ _ negative.0 in
    let untouched = neither _ _ adjacent.0 in
    let again = neither _ _ untouched.0 in
    let clockwise = neither _ _ again.0 in
    let extreme = neither _ _ clockwise.0 in
    let flat = neither _ _ extreme.0 in
    let on = neither _ _ flat.0 in
    let back = neither _ _ on.0 in
    let outside = neither _ _ back.0 in
    let p04 : drawn_is (is_first_outside box) before step ≡ false = outside.0 in
    let p05 : ends_clockwise before step ≡ false = clockwise.1 in
    let p06 : drawn_is has_no_length before step ≡ false = outside.1 in
    let p07 : drawn_is turns_back before step ≡ false = back.1 in
    let p08 : drawn_is goes_straight_on before step ≡ false = on.1 in
    let p09 : drawn_is is_flat before step ≡ false = flat.1 in
    let p10 : drawn_is lacks_extreme before step ≡ false = extreme.1 in
    let p11 : moves_again before step ≡ false = again.1 in
    let h08 : ends_untouched before step ≡ false = untouched.1 in
    let h09 : sets_adjacent before step ≡ false = adjacent.1 in
    let h10 : sets_negative_width step ≡ false = negative.1 in
    rw (p04, p05, p06, p07, p08, p09, p10, p11, h08, h09, h10) refl
