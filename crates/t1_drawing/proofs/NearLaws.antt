-- What steps draw is near the origin, and a step draws at most three segments.
use Rattle.std.proofs.Common.{◌≡◌, ◌≤◌, ◌<◌, ◌+◌, ◌*◌, ◌^◌, ◌&&◌, if◌then◌else◌, ℕ, ℤ, pos, ◌+ℤ◌, Bool, true, false, List, [], ◌∷◌, ◌++◌, length, map, refl, ap, ◌∙◌, append_assoc, append-nil, length-append, arith}
use Rattle.std.proofs.lemmas.Int.{ints}
use Rattle.std.proofs.lemmas.List.{length-map, map-append}
use Rattle.std.proofs.lemmas.List.Elements.{All-append, All-cons}
use Rattle.std.specs.List.{All}
use Rattle.t1_char.specs.declared.command.Command.{Command as Commands}
use Rattle.t1_char.specs.declared.command.Command.TheVariants.{Vmoveto, Rlineto, Hlineto, Vlineto, Rrcurveto, Rmoveto, Hmoveto, Vhcurveto, Hvcurveto}
use Rattle.t1_char.specs.declared.token.CharToken.{CharToken}
use Rattle.t1_char.specs.declared.token.CharToken.TheVariants.{Command}
use Rattle.t1_char.specs.Arguments.{argument, is_flex_point, is_flex_start}
use Rattle.t1_char.specs.Steps.{StepView}
use Rattle.t1_outline.specs.declared.segment.Segment.{Segment}
use Rattle.t1_outline.specs.declared.segment.Segment.TheVariants.{Move, Line, Curve, Close}
use Rattle.t1_outline.specs.Outlines.{DrawnView, curve, drawn, drawn_by, drawn_from, drawn_of, draws_flex, flex_curves, flex_places, has_subpath, places_from, places_on, placed, stroke, stroke_at, with_opening}
use Rattle.t1_outline.proofs.Fronts.{drawn_more}
use Rattle.t1_rules.specs.declared.step_rules.flex.Point.{Point}
use Rattle.t1_rules.specs.StepRules.Flex.{at, current_point, displacement, displacement_of, moved_by, origin, plus, point_set}
use Rattle.t1_rules.specs.StepRules.Paths.{outer_move}
use Rattle.t1_rules.specs.StepRules.Tokens.{closes, is_hsbw, sets_point}
use Rattle.t1_rules.specs.Watches.{IsNear, IsWithin, most_steps, reach}
use Rattle.t1_rules.proofs.Lemmas.Flex.{point_goes_on}
use Rattle.t1_drawing.specs.Bounds.{IsDrawnNear, most_ways}
use Rattle.t1_rules.proofs.Lemmas.Lines.{argument_within}
use Rattle.t1_drawing.specs.Laws.{DrawnSegmentsCanBeSeen, StepsAddWhatTheyDraw}
use Rattle.t1_drawing.specs.Strokes.{segments_of}

-- ---- the current point

one : (z : ℤ) → IsWithin (2 ^ 31) z → IsWithin (1 * reach) z
one z is = record { low = omega (arith, ints, is.low); high = omega (arith, ints, is.high) }

two : (y z : ℤ) → IsWithin (2 ^ 31) y → IsWithin (2 ^ 31) z → IsWithin (1 * reach) (y +ℤ z)
two y z first second = record { low = omega (arith, ints, first.low, second.low); high = omega (arith, ints, first.high, second.high) }

three : (x y z : ℤ) → IsWithin (2 ^ 31) x → IsWithin (2 ^ 31) y → IsWithin (2 ^ 31) z → IsWithin (1 * reach) (x +ℤ y +ℤ z)
three x y z first second third = record {
  low = omega (arith, ints, first.low, second.low, third.low);
  high = omega (arith, ints, first.high, second.high, third.high);
}

none : (n : ℕ) → IsWithin (n * reach) (pos 0)
none n = record { low = omega (arith, ints); high = omega (arith, ints) }

way_near : (v : List ℤ) (j k : ℕ) → IsNear 1 (at (argument v j) (argument v k))
way_near v j k = record { x = one _ (argument_within v j); y = one _ (argument_within v k) }

across_near : (v : List ℤ) (k : ℕ) → IsNear 1 (at (argument v k) (pos 0))
across_near v k = record { x = one _ (argument_within v k); y = none 1 }

upwards_near : (v : List ℤ) (k : ℕ) → IsNear 1 (at (pos 0) (argument v k))
upwards_near v k = record { x = none 1; y = one _ (argument_within v k) }

origin_near : (n : ℕ) → IsNear n origin
origin_near n = record { x = none n; y = none n }

command_near : (command : Commands) (v : List ℤ) → IsNear 1 (moved_by command v)
command_near Rmoveto v = way_near v 0 1
command_near Rlineto v = way_near v 0 1
command_near Hmoveto v = across_near v 0
command_near Hlineto v = across_near v 0
command_near Vmoveto v = upwards_near v 0
command_near Vlineto v = upwards_near v 0
command_near Vhcurveto v = record {
  x = two _ _ (argument_within v 1) (argument_within v 3);
  y = two _ _ (argument_within v 0) (argument_within v 2);
}
command_near Hvcurveto v = record {
  x = two _ _ (argument_within v 0) (argument_within v 1);
  y = two _ _ (argument_within v 2) (argument_within v 3);
}
command_near Rrcurveto v = record {
  x = three _ _ _ (argument_within v 0) (argument_within v 2) (argument_within v 4);
  y = three _ _ _ (argument_within v 1) (argument_within v 3) (argument_within v 5);
}
command_near _ v = origin_near 1

token_near : (token : CharToken) (v : List ℤ) → IsNear 1 (displacement_of token v)
token_near (Command command) v = command_near command v
token_near _ v = origin_near 1

set_near : (t : StepView) → IsNear 1 (point_set t)
set_near t = record { x = one _ (argument_within t.stack 0); y = height (is_hsbw t.token) }
  where
    height : (b : Bool) → IsWithin (1 * reach) (if b then pos 0 else argument t.stack 1)
    height true = none 1
    height false = one _ (argument_within t.stack 1)

wider : (m n : ℕ) (p : Point) → m ≤ n → IsNear m p → IsNear n p
wider m n p more near = record {
  x = record { low = omega (arith, ints, more, near.x.low); high = omega (arith, ints, more, near.x.high) };
  y = record { low = omega (arith, ints, more, near.y.low); high = omega (arith, ints, more, near.y.high) };
}

further : (n : ℕ) (p way : Point) → IsNear n p → IsNear 1 way → IsNear (n + 1) (plus p way)
further n p way near more = record {
  x = record { low = omega (arith, ints, near.x.low, more.x.low); high = omega (arith, ints, near.x.high, more.x.high) };
  y = record { low = omega (arith, ints, near.y.low, more.y.low); high = omega (arith, ints, near.y.high, more.y.high) };
}

point_near_on : (before : List StepView) (t : StepView) → IsNear (length before) (current_point before)
    → IsNear (length (before ++ t ∷ [])) (current_point (before ++ t ∷ []))
point_near_on before t near = rw (length-append before (t ∷ []), point_goes_on before t) (go (sets_point t.token))
  where
    go : (b : Bool) → IsNear (length before + 1) (if b then point_set t else plus (current_point before) (displacement t))
    go true = wider 1 (length before + 1) (point_set t) (omega arith) (set_near t)
    go false = further (length before) (current_point before) (displacement t) near (token_near t.token t.stack)

point_near : (before : List StepView) → IsNear (length before) (current_point before)
point_near before = go [] before (origin_near 0)
  where
    go : (front more : List StepView) → IsNear (length front) (current_point front) → IsNear (length (front ++ more)) (current_point (front ++ more))
    go front [] near = rw (append-nil front) near
    go front (t ∷ more) near = rw (← append_assoc front (t ∷ []) more) (go (front ++ t ∷ []) more (point_near_on front t near))

-- ---- the places of a flex

no_elements : {X : Type 0} (P : X → Type 0) → All P []
no_elements P k d less = absurd (omega (arith, less))

one_element : {X : Type 0} (P : X → Type 0) (x : X) → P x → All P (x ∷ [])
one_element P x is = All-cons P x [] is (no_elements P)

places_near : (n : ℕ) (places : List Point) (before steps : List StepView) → length before + length steps ≤ n → All (IsNear n) places
    → All (IsNear n) (places_from places before steps)
places_near n places before [] few near = near
places_near n places before (t ∷ steps) few near =
    places_near n (places_on places before t) (before ++ t ∷ []) steps (omega (arith, few, length-append before (t ∷ [])))
    (go (is_flex_start t) (is_flex_point t))
  where
    here : IsNear n (current_point before)
    here = wider (length before) n (current_point before) (omega (arith, few)) (point_near before)

    go : (starts adds : Bool) → All (IsNear n) (if starts then current_point before ∷ [] else (if adds then places ++ current_point before ∷ [] else places))
    go true adds = one_element (IsNear n) (current_point before) here
    go false true = All-append (IsNear n) places (current_point before ∷ []) near (one_element (IsNear n) (current_point before) here)
    go false false = near

-- ---- segments

-- What a step may draw.
record Few (ss : List Segment) : Type 0 where
  few : length ss ≤ 3
  near : All IsDrawnNear ss

nothing : Few []
nothing = record { few = omega arith; near = no_elements IsDrawnNear }

one_segment : (s : Segment) → IsDrawnNear s → Few (s ∷ [])
one_segment s near = record { few = omega arith; near = one_element IsDrawnNear s near }

opened : (there : Bool) (start : Point) (ss : List Segment) → length ss ≤ 2 → IsNear most_ways start → All IsDrawnNear ss → Few (with_opening there start ss)
opened true start ss few begins near = record { few = omega (arith, few); near = near }
opened false start ss few begins near = record { few = omega (arith, few); near = All-cons IsDrawnNear (Move start) ss begins near }

curves_few : (n : ℕ) (there : Bool) (places : List Point) → n ≤ most_ways → All (IsNear n) places → Few (flex_curves there places)
curves_few n there (start ∷ reference ∷ a ∷ b ∷ c ∷ d ∷ e ∷ f ∷ []) less near =
    opened there start (Curve a b c ∷ Curve d e f ∷ []) (omega arith) (wider n most_ways start less (near 0 origin (omega arith)))
    (All-cons IsDrawnNear (Curve a b c) (Curve d e f ∷ []) (
      wider n most_ways a less (near 2 origin (omega arith)),
      wider n most_ways b less (near 3 origin (omega arith)),
      wider n most_ways c less (near 4 origin (omega arith)),
    )
    (one_element IsDrawnNear (Curve d e f) (
      wider n most_ways d less (near 5 origin (omega arith)),
      wider n most_ways e less (near 6 origin (omega arith)),
      wider n most_ways f less (near 7 origin (omega arith)),
    )))
curves_few n there _ less near = nothing

-- A line or a curve from a point on.
one_line : (n : ℕ) (there : Bool) (start way : Point) → n < most_steps → IsNear n start → IsNear 1 way
    → Few (with_opening there start (Line (plus start way) ∷ []))
one_line n there start way less near more =
    opened there start (Line (plus start way) ∷ []) (omega arith) (wider n most_ways start (omega (arith, less)) near)
    (one_element IsDrawnNear (Line (plus start way)) (wider (n + 1) most_ways (plus start way) (omega (arith, less)) (further n start way near more)))

one_curve : (n : ℕ) (there : Bool) (start a b c : Point) → n < most_steps → IsNear n start → IsNear 1 a → IsNear 1 b → IsNear 1 c
    → Few (with_opening there start (curve start a b c ∷ []))
one_curve n there start a b c less near first second third =
    let at_one = further n start a near first in
    let at_two = further (n + 1) (plus start a) b at_one second in
    let at_three = further (n + 1 + 1) (plus (plus start a) b) c at_two third in
    opened there start (curve start a b c ∷ []) (omega arith) (wider n most_ways start (omega (arith, less)) near)
    (one_element IsDrawnNear (curve start a b c) (
      wider (n + 1) most_ways (plus start a) (omega (arith, less)) at_one,
      wider (n + 1 + 1) most_ways (plus (plus start a) b) (omega (arith, less)) at_two,
      wider (n + 1 + 1 + 1) most_ways (plus (plus (plus start a) b) c) (omega (arith, less)) at_three,
    ))

closing_few : (closing there : Bool) → Few (if closing && there then Close ∷ [] else [])
closing_few true true = one_segment Close tt
closing_few true false = nothing
closing_few false there = nothing

stroke_few : (n : ℕ) (there closing : Bool) (start : Point) (v : List ℤ) (token : CharToken) → n < most_steps → IsNear n start
    → Few (drawn_by there start closing (stroke_at start v token))
stroke_few n there closing start v (Command Rlineto) less near = one_line n there start _ less near (way_near v 0 1)
stroke_few n there closing start v (Command Hlineto) less near = one_line n there start _ less near (across_near v 0)
stroke_few n there closing start v (Command Vlineto) less near = one_line n there start _ less near (upwards_near v 0)
stroke_few n there closing start v (Command Rrcurveto) less near =
    one_curve n there start _ _ _ less near (way_near v 0 1) (way_near v 2 3) (way_near v 4 5)
stroke_few n there closing start v (Command Vhcurveto) less near =
    one_curve n there start _ _ _ less near (upwards_near v 0) (way_near v 1 2) (across_near v 3)
stroke_few n there closing start v (Command Hvcurveto) less near =
    one_curve n there start _ _ _ less near (across_near v 0) (way_near v 1 2) (upwards_near v 3)
stroke_few n there closing start v (Command _) less near = closing_few closing there
stroke_few n there closing start v _ less near = closing_few closing there

drawn_few : (before : List StepView) (t : StepView) → length before < most_steps → Few (drawn before t)
drawn_few before t less = go (outer_move before t) (draws_flex before t)
  where
    moved : Few (Move (current_point (before ++ t ∷ [])) ∷ [])
    moved =
        one_segment (Move (current_point (before ++ t ∷ [])))
        (wider (length (before ++ t ∷ [])) most_ways (current_point (before ++ t ∷ [])) (omega (arith, less, length-append before (t ∷ [])))
        (point_near (before ++ t ∷ [])))

    flexed : Few (flex_curves (has_subpath before) (flex_places before))
    flexed =
        curves_few (length before) (has_subpath before) (flex_places before) (omega (arith, less))
        (places_near (length before) [] [] before (omega arith) (no_elements (IsNear (length before))))

    go : (moves flexes : Bool)
        → Few (if moves then Move (current_point (before ++ t ∷ [])) ∷ []
        else (if flexes then flex_curves (has_subpath before) (flex_places before)
        else drawn_by (has_subpath before) (current_point before) (closes t.token) (stroke (current_point before) t)))
    go true flexes = moved
    go false true = flexed
    go false false = stroke_few (length before) (has_subpath before) (closes t.token) (current_point before) t.stack t.token less (point_near before)

-- ---- what steps add

few_before : (before steps : List StepView) → length before + length steps ≤ most_steps → length (drawn_from before steps) ≤ 3 * length steps
few_before before [] all = omega arith
few_before before (t ∷ steps) all =
    let own : List DrawnView = map (placed (length before + 1) t.path) (drawn before t) in
    let rest : length (drawn_from (before ++ t ∷ []) steps) ≤ 3 * length steps =
    few_before (before ++ t ∷ []) steps (omega (arith, all, length-append before (t ∷ []))) in
    let here = (drawn_few before t (omega (arith, all))).few in
    omega (
      arith,
      rest,
      here,
      length-append own (drawn_from (before ++ t ∷ []) steps),
      length-map (drawn before t) (placed (length before + 1) t.path),
    )

pub drawn_segments_can_be_seen : DrawnSegmentsCanBeSeen
drawn_segments_can_be_seen before t less =
    let here = drawn_few before t less in
    record {
      few = omega (
        arith,
        less,
        here.few,
        few_before [] before (omega (arith, less)),
        length-map (drawn_of before) (λ (d : DrawnView). d.segment),
      );
      near = here.near;
    }

seen_alone : (number : ℕ) (path : List ℕ) (ss : List Segment) → map (λ (d : DrawnView). d.segment) (map (placed number path) ss) ≡ ss
seen_alone number path [] = refl
seen_alone number path (s ∷ ss) = ap (λ rest. s ∷ rest) (seen_alone number path ss)

pub steps_add_what_they_draw : StepsAddWhatTheyDraw
steps_add_what_they_draw before t =
    ap (map (λ (d : DrawnView). d.segment)) (drawn_more before t)
    ∙ map-append (λ (d : DrawnView). d.segment) (drawn_of before) (map (placed (length before + 1) t.path) (drawn before t))
    ∙ ap (λ ss. segments_of before ++ ss) (seen_alone (length before + 1) t.path (drawn before t))
