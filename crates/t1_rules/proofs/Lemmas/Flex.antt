-- The current point, and what else the watcher of flex keeps, one step further.
use Rattle.std.proofs.Common.{◌≡◌, ℕ, suc, ℤ, pos, ◌+◌, ◌≤◌, ◌+ℤ◌, ◌&&◌, ◌||◌, not, if◌then◌else◌, Bool, true, false, Some, List, [], ◌∷◌, ◌++◌, length, length-append, refl, sym, ap, ◌∙◌, arith}
use Rattle.std.proofs.lemmas.Int.{ints}
use Rattle.std.proofs.Math.Bool.{and-true}
use Rattle.t1_char.specs.Arguments.{is_flex_start, is_flex_point, is_flex_end}
use Rattle.t1_char.specs.Since.{last_of}
use Rattle.t1_char.specs.Steps.{StepView}
use Rattle.t1_char.proofs.LookingBack.{after_last_goes_on, last_goes_on, since_goes_on}
use Rattle.t1_rules.specs.declared.step_rules.flex.FlexWatcher.{FlexWatcher}
use Rattle.t1_rules.specs.declared.step_rules.flex.Point.{Point}
use Rattle.t1_rules.specs.StepRules.Flex.{at, current_point, displacement, moving, origin, plus, point_set, set_by, setting_point, travelled}
use Rattle.t1_rules.specs.StepRules.Paths.{flex_start, flex_end}
use Rattle.t1_rules.specs.StepRules.Stems.{popping}
use Rattle.t1_rules.specs.StepRules.Tokens.{is_move, is_pop, sets_point}
use Rattle.t1_rules.specs.Private.Standing.{FlexStandsFor}
use Rattle.t1_rules.specs.Watches.{IsNear}
use Rattle.t1_rules.proofs.Lemmas.Tokens.{IsNoCommand}
use Rattle.t1_rules.proofs.Lemmas.Before.{counted_on, was_last, was_before}
use Rattle.t1_font.specs.Fonts.{after_last}

-- Points are equal where both coordinates are.
same_point : (a b c d : ℤ) → a ≡ c → b ≡ d → at a b ≡ at c d
same_point a b c d x y = rw (x, y) refl

pub plus_origin : (p : Point) → plus p origin ≡ p
plus_origin p = same_point (p.x +ℤ pos 0) (p.y +ℤ pos 0) p.x p.y (omega (arith, ints)) (omega (arith, ints))

origin_plus : (p : Point) → plus origin p ≡ p
origin_plus p = same_point (pos 0 +ℤ p.x) (pos 0 +ℤ p.y) p.x p.y (omega (arith, ints)) (omega (arith, ints))

plus_assoc : (p q r : Point) → plus (plus p q) r ≡ plus p (plus q r)
plus_assoc p q r = same_point _ _ _ _ (omega (arith, ints)) (omega (arith, ints))

travelled_more : (steps : List StepView) (t : StepView) → travelled (steps ++ t ∷ []) ≡ plus (travelled steps) (displacement t)
travelled_more [] t = plus_origin (displacement t) ∙ sym (origin_plus (displacement t))
travelled_more (s ∷ ss) t =
    ap (λ p. plus (displacement s) p) (travelled_more ss t)
    ∙ sym (plus_assoc (displacement s) (travelled ss) (displacement t))

-- A step sets the current point, or moves it on.
pub point_goes_on : (before : List StepView) (t : StepView) → current_point (before ++ t ∷ [])
    ≡ (if sets_point t.token then point_set t else plus (current_point before) (displacement t))
point_goes_on before t =
    ap (λ last. plus (set_by last) (travelled (after_last setting_point (before ++ t ∷ [])))) (last_goes_on setting_point before t)
    ∙ ap (λ steps. plus (set_by (if setting_point t then Some t else last_of setting_point before)) (travelled steps))
    (after_last_goes_on setting_point before t)
    ∙ go (sets_point t.token)
  where
    go : (b : Bool) → plus (set_by (if b then Some t else last_of setting_point before))
        (travelled (if b then [] else after_last setting_point before ++ t ∷ [])) ≡ (if b then point_set t else plus (current_point before) (displacement t))
    go true = plus_origin (point_set t)
    go false =
        ap (λ p. plus (set_by (last_of setting_point before)) p) (travelled_more (after_last setting_point before) t)
        ∙ sym (plus_assoc (set_by (last_of setting_point before)) (travelled (after_last setting_point before)) (displacement t))

-- A count since the last start is never above how many steps there were.
few : (a b : Bool) (count n more : ℕ) → more ≡ (if a then 0 else (if b then suc count else count)) → count ≤ n → more ≤ n + 1
few true b count n more is less = omega (arith, is)
few false true count n more is less = omega (arith, is)
few false false count n more is less = omega (arith, is)

-- What is kept after a step, by what was kept before it.
pub one_more_in_flex : (old new : FlexWatcher) (before : List StepView) (t : StepView) → FlexStandsFor old before
    → new.in_flex ≡ (is_flex_start t || (old.in_flex && not (is_flex_end t)))
    → new.moves ≡ (if is_flex_start t then 0 else (if is_move t.token then suc old.moves else old.moves))
    → new.points ≡ (if is_flex_start t then 0 else (if is_flex_point t then suc old.points else old.points))
    → new.point ≡ (if sets_point t.token then point_set t else plus old.point (displacement t))
    → new.ended ≡ is_flex_end t
    → new.popped ≡ (is_pop t.token && old.ended)
    → new.popped_twice ≡ (is_pop t.token && old.popped)
    → IsNear (length before + 1) new.point
    → FlexStandsFor new (before ++ t ∷ [])
one_more_in_flex old new before t st in_flex moves points point ended popped popped_twice near =
    let longer : length (before ++ t ∷ []) ≡ length before + 1 = length-append before (t ∷ []) in
    record {
      in_flex = in_flex ∙ rw (st.in_flex, since_goes_on flex_start flex_end before t);
      moves = moves ∙ rw (st.moves) (sym (counted_on moving is_flex_start before t));
      points = points ∙ rw (st.points) (sym (counted_on is_flex_point is_flex_start before t));
      point = point ∙ rw (st.point) (sym (point_goes_on before t));
      ended = ended ∙ sym (was_last is_flex_end before t);
      popped = popped ∙ rw (st.ended, was_before 0 is_flex_end before t, was_last popping before t) (turned (is_pop t.token) _);
      popped_twice = popped_twice ∙ rw (
        st.popped,
        was_before 1 is_flex_end before t,
        was_before 0 popping before t,
        was_last popping before
            t,
      ) (turned (is_pop t.token) _);
      few_moves = rw longer (few (is_flex_start t) (is_move t.token) old.moves (length before) new.moves moves st.few_moves);
      few_points = rw longer (few (is_flex_start t) (is_flex_point t) old.points (length before) new.points points st.few_points);
      near = rw longer near;
    }
  where
    turned : (a b : Bool) → (a && b) ≡ (b && a)
    turned true true = refl
    turned true false = refl
    turned false true = refl
    turned false false = refl

-- A point stays as near after one step more.
pub near_on : (n : ℕ) (p : Point) → IsNear n p → IsNear (n + 1) p
near_on n p near = record {
  x = record { low = omega (arith, ints, near.x.low); high = omega (arith, ints, near.x.high) };
  y = record { low = omega (arith, ints, near.y.low); high = omega (arith, ints, near.y.high) };
}

-- What is no command changes what the last steps were alone.
pub flex_stays : (old new : FlexWatcher) (before : List StepView) (t : StepView) → IsNoCommand t.token → FlexStandsFor old before
    → new.in_flex ≡ old.in_flex → new.moves ≡ old.moves → new.points ≡ old.points → new.point ≡ old.point
    → new.ended ≡ false → new.popped ≡ false → new.popped_twice ≡ false
    → FlexStandsFor new (before ++ t ∷ [])
flex_stays old new before t quiet st in_flex moves points point ended popped popped_twice =
    one_more_in_flex old new before t st
    (in_flex ∙ rw (quiet.othersubr) (sym (and-true old.in_flex)))
    (moves ∙ rw (quiet.othersubr, quiet.moves) refl)
    (points ∙ rw (quiet.othersubr) refl)
    (point ∙ rw (quiet.sets, quiet.stays t.stack) (sym (plus_origin old.point)))
    (ended ∙ rw (quiet.othersubr) refl)
    (popped ∙ rw (quiet.pops) refl)
    (popped_twice ∙ rw (quiet.pops) refl)
    (rw point (near_on (length before) old.point st.near))
