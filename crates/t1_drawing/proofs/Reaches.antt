-- Which edges a line or a curve touches, as two ranges.
use Rattle.std.proofs.Common.{◌≡◌, ℤ, pos, negsuc, ◌+ℤ◌, ◌-ℤ◌, ◌||◌, int_le, Bool, true, false, refl, arith, FitsSigned}
use Rattle.std.proofs.lemmas.Int.{clamps, ints}
use Rattle.std.specs.Int.{int_max, int_min, w64}
use Rattle.t1_drawing.specs.declared.touching.Extent.{Extent}
use Rattle.t1_drawing.specs.declared.touching.Reach.{Reach}
use Rattle.t1_drawing.specs.Private.Watching.{IsReach, above, below}
use Rattle.t1_drawing.specs.Touching.{is_between, is_near, near_by, touches_edge}

near_is : (s x : ℤ) → is_near s x ≡ is_between (s -ℤ pos near_by) x (s +ℤ pos near_by)
near_is s x = grind (arith, ints)

below_is : (z x : ℤ) → FitsSigned w64 z → FitsSigned w64 x → int_le (below z) x ≡ int_le (z -ℤ pos near_by) x
below_is (pos n) x fz fx = grind (arith, ints, fz, fx)
below_is (negsuc n) x fz fx = grind (arith, ints, fz, fx)

above_is : (z x : ℤ) → FitsSigned w64 z → FitsSigned w64 x → int_le x (above z) ≡ int_le x (z +ℤ pos near_by)
above_is (pos n) x fz fx = grind (arith, ints, fz, fx)
above_is (negsuc n) x fz fx = grind (arith, ints, fz, fx)

lower_side : (least low x : ℤ) → is_between (int_min least (low -ℤ pos near_by)) x (low +ℤ pos near_by) ≡ (is_near low x || is_between least x low)
lower_side least low x = grind (arith, ints, clamps, near_is low x)

upper_side : (greatest high x : ℤ) → is_between (high -ℤ pos near_by) x (int_max greatest (high +ℤ pos near_by)) ≡ (is_near high x || is_between high x greatest)
upper_side greatest high x = grind (arith, ints, clamps, near_is high x)

min_le : (a b x : ℤ) → int_le (int_min a b) x ≡ (int_le a x || int_le b x)
min_le a b x = grind (arith, ints, clamps)

le_max : (a b x : ℤ) → int_le x (int_max a b) ≡ (int_le x a || int_le x b)
le_max a b x = grind (arith, ints, clamps)

swapped : (a b c d : Bool) → ((a || b) || (c || d)) ≡ ((a || c) || (b || d))
swapped true b c d = refl
swapped false true true d = refl
swapped false true false d = refl
swapped false false true d = refl
swapped false false false d = refl

turned : (a b c d : Bool) → ((a || b) || (c || d)) ≡ ((c || a) || (b || d))
turned true b true d = refl
turned true b false d = refl
turned false true true d = refl
turned false true false d = refl
turned false false true d = refl
turned false false false d = refl

halves : (e : Extent) (x : ℤ) →
    ((is_near (int_min e.start e.end) x || is_between e.least x (int_min e.start e.end))
    || (is_near (int_max e.start e.end) x || is_between (int_max e.start e.end) x e.greatest)) ≡ touches_edge e x
halves e x = go (int_le e.start e.end) refl
  where
    go : (b : Bool) → int_le e.start e.end ≡ b →
        ((is_near (int_min e.start e.end) x || is_between e.least x (int_min e.start e.end))
        || (is_near (int_max e.start e.end) x || is_between (int_max e.start e.end) x e.greatest)) ≡ touches_edge e x
    go true is =
        let least : int_min e.start e.end ≡ e.start = grind (arith, ints, clamps, is) in
        let greatest : int_max e.start e.end ≡ e.end = grind (arith, ints, clamps, is) in
        rw (least, greatest) (swapped (is_near e.start x) (is_between e.least x e.start) (is_near e.end x) (is_between e.end x e.greatest))
    go false is =
        let least : int_min e.start e.end ≡ e.end = grind (arith, ints, clamps, is) in
        let greatest : int_max e.start e.end ≡ e.start = grind (arith, ints, clamps, is) in
        rw (least, greatest) (turned (is_near e.end x) (is_between e.least x e.end) (is_near e.start x) (is_between e.start x e.greatest))

pub reach_touches : (e : Extent) (reach : Reach) (x : ℤ) → IsReach e reach → FitsSigned w64 x →
    (is_between reach.lowest x reach.low || is_between reach.high x reach.highest) ≡ touches_edge e x
reach_touches e reach x is fits =
    rw (
      is.same,
      min_le e.least (below (int_min e.start e.end)) x,
      below_is (int_min e.start e.end) x is.low fits,
      above_is (int_min e.start e.end) x is.low fits,
      ← min_le e.least (int_min e.start e.end -ℤ pos near_by) x,
      lower_side e.least (int_min e.start e.end) x,
      le_max e.greatest (above (int_max e.start e.end)) x,
      below_is (int_max e.start e.end) x is.high fits,
      above_is (int_max e.start e.end) x is.high fits,
      ← le_max e.greatest (int_max e.start e.end +ℤ pos near_by) x,
      upper_side e.greatest (int_max e.start e.end) x,
    ) (halves e x)
