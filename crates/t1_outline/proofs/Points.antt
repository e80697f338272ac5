-- Where the segments of a step end.
use Rattle.std.proofs.Common.{◌≡◌, ℤ, pos, ◌+ℤ◌, if◌then◌else◌, Bool, true, false, Option, None, Some, List, [], ◌∷◌, ◌++◌, length, refl, sym, ap, ◌∙◌, arith}
use Rattle.std.proofs.lemmas.Int.{ints}
use Rattle.t1_char.specs.declared.command.Command.TheVariants.{Vlineto, Rlineto, Hlineto, Rrcurveto, Vhcurveto, Hvcurveto}
use Rattle.t1_char.specs.declared.token.CharToken.{CharToken}
use Rattle.t1_char.specs.declared.token.CharToken.TheVariants.{Command}
use Rattle.t1_char.specs.Steps.{StepView}
use Rattle.t1_outline.specs.declared.segment.Segment.{Segment}
use Rattle.t1_outline.specs.declared.segment.Segment.TheVariants.{Move}
use Rattle.t1_outline.specs.Laws.Points.{StepsEndAtTheCurrentPoint, end_of, last_end}
use Rattle.t1_outline.specs.Outlines.{draws_flex, drawn_by, flex_curves, flex_places, has_subpath, stroke, stroke_at}
use Rattle.t1_outline.proofs.Flexes.{eight_places, is_whole_flex, seven_each}
use Rattle.t1_outline.proofs.LastPlaces.{called_clears_none, is_at_place, last_place, stays}
use Rattle.t1_outline.proofs.Subpaths.{no_stroke}
use Rattle.t1_rules.specs.declared.step_rules.flex.Point.{Point}
use Rattle.t1_rules.specs.StepRules.Flex.{at, current_point, displacement_of, origin, plus}
use Rattle.t1_rules.specs.StepRules.Paths.{outer_move}
use Rattle.t1_rules.specs.StepRules.Tokens.{closes, is_line, sets_point}
use Rattle.t1_rules.proofs.Lemmas.Flex.{point_goes_on}

same_point : (a b c d : ℤ) → a ≡ c → b ≡ d → at a b ≡ at c d
same_point a b c d x y = rw (x, y) refl

-- Three ways one after another, and their sum; where one has no part in it too.
three : (s a b c : ℤ) → (((s +ℤ a) +ℤ b) +ℤ c) ≡ (s +ℤ ((a +ℤ b) +ℤ c))
three s a b c = omega (arith, ints)

no_first : (s b c : ℤ) → (((s +ℤ pos 0) +ℤ b) +ℤ c) ≡ (s +ℤ (b +ℤ c))
no_first s b c = omega (arith, ints)

no_last : (s a b : ℤ) → (((s +ℤ a) +ℤ b) +ℤ pos 0) ≡ (s +ℤ (a +ℤ b))
no_last s a b = omega (arith, ints)

-- A line or a curve ends as far from where it starts as its command moves the current point.
line_ends : (there closing : Bool) (p : Option Point) (start : Point) (v : List ℤ) (token : CharToken) → is_line token ≡ true
    → last_end p (drawn_by there start closing (stroke_at start v token)) ≡ Some (plus start (displacement_of token v))
line_ends true closing p start v (Command Rlineto) is = refl
line_ends true closing p start v (Command Hlineto) is = refl
line_ends true closing p start v (Command Vlineto) is = refl
line_ends true closing p start v (Command Rrcurveto) is = ap (λ (q : Point). Some q) (same_point _ _ _ _ (three start.x _ _ _) (three start.y _ _ _))
line_ends true closing p start v (Command Vhcurveto) is = ap (λ (q : Point). Some q) (same_point _ _ _ _ (no_first start.x _ _) (no_last start.y _ _))
line_ends true closing p start v (Command Hvcurveto) is = ap (λ (q : Point). Some q) (same_point _ _ _ _ (no_last start.x _ _) (no_first start.y _ _))
line_ends true closing p start v (Command _) is = let no : false ≡ true = is in cc
line_ends true closing p start v _ is = let no : false ≡ true = is in cc
line_ends false closing p start v (Command Rlineto) is = refl
line_ends false closing p start v (Command Hlineto) is = refl
line_ends false closing p start v (Command Vlineto) is = refl
line_ends false closing p start v (Command Rrcurveto) is = ap (λ (q : Point). Some q) (same_point _ _ _ _ (three start.x _ _ _) (three start.y _ _ _))
line_ends false closing p start v (Command Vhcurveto) is = ap (λ (q : Point). Some q) (same_point _ _ _ _ (no_first start.x _ _) (no_last start.y _ _))
line_ends false closing p start v (Command Hvcurveto) is = ap (λ (q : Point). Some q) (same_point _ _ _ _ (no_last start.x _ _) (no_first start.y _ _))
line_ends false closing p start v (Command _) is = let no : false ≡ true = is in cc
line_ends false closing p start v _ is = let no : false ≡ true = is in cc

line_sets_none : (token : CharToken) → is_line token ≡ true → sets_point token ≡ false
line_sets_none (Command Rlineto) is = refl
line_sets_none (Command Hlineto) is = refl
line_sets_none (Command Vlineto) is = refl
line_sets_none (Command Rrcurveto) is = refl
line_sets_none (Command Vhcurveto) is = refl
line_sets_none (Command Hvcurveto) is = refl
line_sets_none (Command _) is = let no : false ≡ true = is in cc
line_sets_none _ is = let no : false ≡ true = is in cc

-- One from the current point on ends where the current point is after it.
pub stroke_ends : (before : List StepView) (t : StepView) (s : Segment) → is_line t.token ≡ true → stroke (current_point before) t ≡ Some s
    → end_of s ≡ Some (current_point (before ++ t ∷ []))
stroke_ends before t s is drawn =
    ap (λ (d : Option Segment). last_end None (drawn_by true (current_point before) false d)) (sym drawn)
    ∙ line_ends true false None (current_point before) t.stack t.token is
    ∙ ap (λ (q : Point). Some q) (sym (point_goes_on before t ∙ rw (line_sets_none t.token is) refl))

-- The curves of a flex end at its last place.
curves_end : (there : Bool) (p : Option Point) (q : Point) (places : List Point) → length places ≡ 8
    → last_end p (flex_curves there places) ≡ Some (last_place q places)
curves_end true p q (start ∷ reference ∷ a ∷ b ∷ c ∷ d ∷ e ∷ f ∷ []) is = refl
curves_end false p q (start ∷ reference ∷ a ∷ b ∷ c ∷ d ∷ e ∷ f ∷ []) is = refl
curves_end there p q [] is = absurd (omega (arith, is))
curves_end there p q (a ∷ []) is = absurd (omega (arith, is))
curves_end there p q (a ∷ b ∷ []) is = absurd (omega (arith, is))
curves_end there p q (a ∷ b ∷ c ∷ []) is = absurd (omega (arith, is))
curves_end there p q (a ∷ b ∷ c ∷ d ∷ []) is = absurd (omega (arith, is))
curves_end there p q (a ∷ b ∷ c ∷ d ∷ e ∷ []) is = absurd (omega (arith, is))
curves_end there p q (a ∷ b ∷ c ∷ d ∷ e ∷ f ∷ []) is = absurd (omega (arith, is))
curves_end there p q (a ∷ b ∷ c ∷ d ∷ e ∷ f ∷ g ∷ []) is = absurd (omega (arith, is))
curves_end there p q (a ∷ b ∷ c ∷ d ∷ e ∷ f ∷ g ∷ h ∷ i ∷ more) is = absurd (omega (arith, is))

flex_ends : (before : List StepView) (t : StepView) (there : Bool) (p : Option Point) → draws_flex before t ≡ true
    → last_end p (flex_curves there (flex_places before)) ≡ Some (current_point (before ++ t ∷ []))
flex_ends before t there p draws =
    let whole = is_whole_flex before t draws in
    let counts = seven_each before t whole.ends whole.inside whole.sound in
    curves_end there p origin (flex_places before) (eight_places before t whole.ends whole.inside whole.sound)
    ∙ ap (λ (q : Point). Some q)
    ((is_at_place before).at whole.inside whole.unspoiled (counts.0 ∙ sym counts.1) ∙ sym (stays before t (called_clears_none 0 3 t whole.ends)))

pub steps_end_at_the_current_point : StepsEndAtTheCurrentPoint
steps_end_at_the_current_point before t unclosed = go (outer_move before t) (draws_flex before t) (is_line t.token) refl refl
  where
    end : Option Point
    end = Some (current_point (before ++ t ∷ []))

    go : (moves flexes lines : Bool) → draws_flex before t ≡ flexes → is_line t.token ≡ lines
        → last_end end (if moves then Move (current_point (before ++ t ∷ [])) ∷ []
        else (if flexes then flex_curves (has_subpath before) (flex_places before)
        else drawn_by (has_subpath before) (current_point before) (closes t.token) (stroke (current_point before) t))) ≡ end
    go true flexes lines f l = refl
    go false true lines f l = flex_ends before t (has_subpath before) end f
    go false false true f l =
        line_ends (has_subpath before) (closes t.token) end (current_point before) t.stack t.token l
        ∙ ap (λ (q : Point). Some q) (sym (point_goes_on before t ∙ rw (line_sets_none t.token l) refl))
    go false false false f l = rw (no_stroke (current_point before) t.stack t.token l, unclosed) refl
