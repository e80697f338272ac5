-- Laws of areas: polygons, and subpaths that are run the other way.
use Rattle.std.proofs.Common.{◌≡◌, ℤ, pos, neg_ℤ, ◌+ℤ◌, ◌*ℤ◌, true, false, List, [], ◌∷◌, ◌++◌, map, refl, sym, ap, ◌∙◌, arith}
use Rattle.std.proofs.lemmas.Int.{ints}
use Rattle.std.proofs.Math.IntN.{*ℤ_comm}
use Rattle.std.specs.List.{list_all}
use Rattle.t1_outline.specs.declared.segment.Segment.{Segment}
use Rattle.t1_outline.specs.declared.segment.Segment.TheVariants.{Move, Line, Curve, Close}
use Rattle.t1_rules.specs.declared.step_rules.flex.Point.{Point}
use Rattle.t1_rules.specs.StepRules.Flex.{origin}
use Rattle.t1_drawing.specs.Areas.{area_from, area_of, curve_area, line_area}
use Rattle.t1_drawing.specs.Laws.{PolygonsHaveTheAreaOfTheirCorners, TurnedSubpathsHaveTheOppositeArea, all_turned, corners_from, end_from, is_stroke, last_from, turned}
use Rattle.t1_drawing.specs.Points.{cross}

-- Nothing is closed before the first move.
no_area : line_area origin origin ≡ pos 0
unfolding line_area cross
no_area = refl

from_move : (p : Point) (ss : List Segment) → area_of (Move p ∷ ss) ≡ area_from p p ss
from_move p ss = rw no_area (plus_none (area_from p p ss))
  where
    plus_none : (z : ℤ) → (pos 0 +ℤ z) ≡ z
    plus_none z = omega (arith, ints)

-- ---- polygons

corners_area : (began corner : Point) (corners : List Point)
    → area_from began corner (map Line corners) ≡ pos 10 *ℤ corners_from began corner corners
unfolding line_area
corners_area began corner [] = refl
corners_area began corner (next ∷ corners) =
    ap (λ z. pos 10 *ℤ cross corner next +ℤ z) (corners_area began next corners)
    ∙ tenfold (cross corner next) (corners_from began next corners)
  where
    tenfold : (x y : ℤ) → (pos 10 *ℤ x +ℤ pos 10 *ℤ y) ≡ pos 10 *ℤ (x +ℤ y)
    tenfold x y = omega (arith, ints)

pub polygons_have_the_area_of_their_corners : PolygonsHaveTheAreaOfTheirCorners
polygons_have_the_area_of_their_corners first corners = from_move first (map Line corners) ∙ corners_area first first corners

-- ---- the other way

other_cross : (p q : Point) → cross q p ≡ neg_ℤ (cross p q)
unfolding cross
other_cross p q = omega (arith, ints, *ℤ_comm q.x p.y, *ℤ_comm q.y p.x)

other_line : (p q : Point) → line_area q p ≡ neg_ℤ (line_area p q)
unfolding line_area
other_line p q = omega (arith, ints, other_cross p q)

other_curve : (p a b q : Point) → curve_area q b a p ≡ neg_ℤ (curve_area p a b q)
unfolding curve_area
other_curve p a b q = omega (
  arith,
  ints,
  other_cross b q,
  other_cross p a,
  other_cross a q,
  other_cross a b,
  other_cross p b,
  other_cross p q,
)

-- The area of one segment, and of several without the line that closes them.
abbrev stroke_area : Point → Segment → ℤ
stroke_area start (Line end) = line_area start end
stroke_area start (Curve one two end) = curve_area start one two end
stroke_area start s = pos 0

abbrev open_area : Point → List Segment → ℤ
open_area start [] = pos 0
open_area start (s ∷ ss) = stroke_area start s +ℤ open_area (end_from start s) ss

grouped : (x y z : ℤ) → (x +ℤ (y +ℤ z)) ≡ ((x +ℤ y) +ℤ z)
grouped x y z = omega (arith, ints)

closed_area : (began start : Point) (ss : List Segment) → list_all is_stroke ss ≡ true
    → area_from began start ss ≡ open_area start ss +ℤ line_area (last_from start ss) began
closed_area began start [] all = none_plus (line_area start began)
  where
    none_plus : (z : ℤ) → z ≡ (pos 0 +ℤ z)
    none_plus z = omega (arith, ints)
closed_area began start (Line end ∷ ss) all =
    ap (λ z. line_area start end +ℤ z) (closed_area began end ss all)
    ∙ grouped (line_area start end) (open_area end ss) (line_area (last_from end ss) began)
closed_area began start (Curve one two end ∷ ss) all =
    ap (λ z. curve_area start one two end +ℤ z) (closed_area began end ss all)
    ∙ grouped (curve_area start one two end) (open_area end ss) (line_area (last_from end ss) began)
closed_area began start (Move p ∷ ss) all = let no : false ≡ true = all in cc
closed_area began start (Close ∷ ss) all = let no : false ≡ true = all in cc

open_append : (start : Point) (xs : List Segment) (s : Segment)
    → open_area start (xs ++ s ∷ []) ≡ open_area start xs +ℤ stroke_area (last_from start xs) s
open_append start [] s = swapped (stroke_area start s)
  where
    swapped : (z : ℤ) → (z +ℤ pos 0) ≡ (pos 0 +ℤ z)
    swapped z = omega (arith, ints)
open_append start (x ∷ xs) s =
    ap (λ z. stroke_area start x +ℤ z) (open_append (end_from start x) xs s)
    ∙ grouped (stroke_area start x) (open_area (end_from start x) xs) (stroke_area (last_from (end_from start x) xs) s)

last_append : (start : Point) (xs : List Segment) (s : Segment) → last_from start (xs ++ s ∷ []) ≡ end_from (last_from start xs) s
last_append start [] s = refl
last_append start (x ∷ xs) s = last_append (end_from start x) xs s

strokes_append : (xs : List Segment) (s : Segment) → list_all is_stroke xs ≡ true → is_stroke s ≡ true → list_all is_stroke (xs ++ s ∷ []) ≡ true
strokes_append [] s all is = rw is refl
strokes_append (Line end ∷ xs) s all is = strokes_append xs s all is
strokes_append (Curve one two end ∷ xs) s all is = strokes_append xs s all is
strokes_append (Move p ∷ xs) s all is = let no : false ≡ true = all in cc
strokes_append (Close ∷ xs) s all is = let no : false ≡ true = all in cc

-- What is known of lines and curves that are run the other way.
record Turned (start : Point) (ss : List Segment) : Type 0 where
  strokes : list_all is_stroke (all_turned start ss) ≡ true
  ends : last_from (last_from start ss) (all_turned start ss) ≡ start
  area : open_area (last_from start ss) (all_turned start ss) ≡ neg_ℤ (open_area start ss)

one_turned : (start end last : Point) (s : Segment) (ss : List Segment) → end_from start s ≡ end → last_from end ss ≡ last
    → is_stroke (turned start s) ≡ true → end_from end (turned start s) ≡ start
    → stroke_area end (turned start s) ≡ neg_ℤ (stroke_area start s) → Turned end ss → Turned start (s ∷ ss)
one_turned start end last s ss at_end at_last stroke ends area rest = record {
  strokes = rw at_end (strokes_append (all_turned end ss) (turned start s) rest.strokes stroke);
  ends = rw at_end (last_append (last_from end ss) (all_turned end ss) (turned start s) ∙ rw rest.ends ends);
  area = rw at_end (
      open_append (last_from end ss) (all_turned end ss) (turned start s)
      ∙ rw rest.ends (negated (open_area (last_from end ss) (all_turned end ss)) (stroke_area end (turned start s)) (open_area end ss) (stroke_area start s) rest.area area)
      );
}
  where
    negated : (x y u v : ℤ) → x ≡ neg_ℤ u → y ≡ neg_ℤ v → (x +ℤ y) ≡ neg_ℤ (v +ℤ u)
    negated x y u v one other = omega (arith, ints, one, other)

all_are_turned : (start : Point) (ss : List Segment) → list_all is_stroke ss ≡ true → Turned start ss
all_are_turned start [] all = record { strokes = refl; ends = refl; area = refl }
all_are_turned start (Line end ∷ ss) all =
    one_turned start end (last_from end ss) (Line end) ss refl refl refl refl (other_line start end) (all_are_turned end ss all)
all_are_turned start (Curve one two end ∷ ss) all =
    one_turned start end (last_from end ss) (Curve one two end) ss refl refl refl refl (other_curve start one two end) (all_are_turned end ss all)
all_are_turned start (Move p ∷ ss) all = let no : false ≡ true = all in cc
all_are_turned start (Close ∷ ss) all = let no : false ≡ true = all in cc

pub turned_subpaths_have_the_opposite_area : TurnedSubpathsHaveTheOppositeArea
turned_subpaths_have_the_opposite_area start ss all =
    let last : Point = last_from start ss in
    let back = all_are_turned start ss all in
    from_move last (all_turned start ss)
    ∙ closed_area last last (all_turned start ss) back.strokes
    ∙ rw back.ends (
    negated (open_area last (all_turned start ss)) (line_area start last) (open_area start ss) (line_area last start) back.area (other_line last start)
    )
    ∙ ap neg_ℤ (sym (closed_area start start ss all) ∙ sym (from_move start ss))
  where
    negated : (x y u v : ℤ) → x ≡ neg_ℤ u → y ≡ neg_ℤ v → (x +ℤ y) ≡ neg_ℤ (u +ℤ v)
    negated x y u v one other = omega (arith, ints, one, other)
