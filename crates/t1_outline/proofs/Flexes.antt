-- The places of a flex, one step further; and how many they are.
use Rattle.std.proofs.Common.{◌≡◌, ℕ, suc, ◌+◌, ◌==◌, ◌&&◌, ◌||◌, not, if◌then◌else◌, Bool, true, false, List, [], ◌∷◌, ◌++◌, length, take, append_assoc, append-nil, length-append, take_all, refl, sym, ap, subst, ◌∙◌, arith}
use Rattle.std.proofs.lemmas.Bool.{eqb-true}
use Rattle.t1_char.specs.Arguments.{is_flex_end, is_flex_point, is_flex_start}
use Rattle.t1_char.specs.Steps.{StepView}
use Rattle.t1_char.proofs.LookingBack.{since_goes_on}
use Rattle.t1_outline.specs.Nibs.{spoils}
use Rattle.t1_outline.specs.Outlines.{begins_flex, draws_flex, flex_curves, flex_places, is_spoiled, places_from, places_on, spoils_flex}
use Rattle.t1_outline.specs.Private.Drawing.{places_kept}
use Rattle.t1_rules.specs.declared.mask.Mask.{Mask}
use Rattle.t1_rules.specs.declared.step_rules.flex.Point.{Point}
use Rattle.t1_rules.specs.Mask.{has}
use Rattle.t1_rules.specs.StepRules.{breaks, flex_rules}
use Rattle.t1_rules.specs.StepRules.Flex.{commands_in_flex, counts_no_pairs, current_point, flex_moves, flex_points, starts_in_flex}
use Rattle.t1_rules.specs.StepRules.Paths.{flex_end, flex_start, in_flex}
use Rattle.t1_rules.proofs.Lemmas.Before.{counted_on, take_more}
use Rattle.t1_rules.proofs.Lemmas.FlexPairs.{end_is_no_point, is_other}
use Rattle.t1_rules.proofs.Lemmas.OthersubrCalls.{and_both, is_called}
use Rattle.t1_rules.proofs.Lemmas.StepRules.{row_decides}

places_from_more : (places : List Point) (front ss : List StepView) (t : StepView)
    → places_from places front (ss ++ t ∷ []) ≡ places_on (places_from places front ss) (front ++ ss) t
places_from_more places front [] t = rw (append-nil front) refl
places_from_more places front (s ∷ ss) t =
    places_from_more (places_on places front s) (front ++ s ∷ []) ss t
    ∙ ap (λ before. places_on (places_from (places_on places front s) (front ++ s ∷ []) ss) before t) (append_assoc front (s ∷ []) ss)

pub places_go_on : (before : List StepView) (t : StepView) → flex_places (before ++ t ∷ []) ≡ places_on (flex_places before) before t
places_go_on before t = places_from_more [] [] before t

-- In flex, its start has a place, and each of its points.
abbrev pub IsCounted : List StepView → Type 0
IsCounted before = in_flex before ≡ true → length (flex_places before) ≡ suc (flex_points before)

count_on : (start point end inside : Bool) (places : List Point) (p : Point) (points : ℕ)
    → (inside ≡ true → length places ≡ suc points) → (start || (inside && not end)) ≡ true
    → length (if start then p ∷ [] else (if point then places ++ p ∷ [] else places)) ≡ suc (if start then 0 else (if point then suc points else points))
count_on true point end inside places p points less is = refl
count_on false point end false places p points less is = let no : false ≡ true = is in cc
count_on false point true true places p points less is = let no : false ≡ true = is in cc
count_on false true false true places p points less is = omega (arith, length-append places (p ∷ []), less refl)
count_on false false false true places p points less is = less refl

counted_step : (before : List StepView) (t : StepView) → IsCounted before → IsCounted (before ++ t ∷ [])
counted_step before t less = λ is.
    rw (places_go_on before t, counted_on is_flex_point is_flex_start before t)
    (count_on (is_flex_start t) (is_flex_point t) (is_flex_end t) (in_flex before) (flex_places before) (current_point before) (flex_points before)
    less (sym (since_goes_on flex_start flex_end before t) ∙ is))

counted_steps : (front steps : List StepView) → IsCounted front → IsCounted (front ++ steps)
counted_steps front [] less = subst IsCounted (sym (append-nil front)) less
counted_steps front (s ∷ ss) less = subst IsCounted (append_assoc front (s ∷ []) ss) (counted_steps (front ++ s ∷ []) ss (counted_step front s less))

pub places_counted : (before : List StepView) → IsCounted before
places_counted before = counted_steps [] before (λ is. let no : false ≡ true = is in cc)

-- What the rules on flex say of a step is what spoils a flex.
x01_row : (before : List StepView) (t : StepView) → breaks flex_rules 52 before t ≡ starts_in_flex before t
unfolding flex_rules
x01_row before t = row_decides 52 flex_rules 0 _ refl refl refl refl before t

x03_row : (before : List StepView) (t : StepView) → breaks flex_rules 54 before t ≡ commands_in_flex before t
unfolding flex_rules
x03_row before t = row_decides 54 flex_rules 2 _ refl refl refl refl before t

x04_row : (before : List StepView) (t : StepView) → breaks flex_rules 55 before t ≡ counts_no_pairs before t
unfolding flex_rules
x04_row before t = row_decides 55 flex_rules 3 _ refl refl refl refl before t

pub spoils_is : (broken : Mask) (before : List StepView) (t : StepView) → ((n : ℕ) → has broken n ≡ breaks flex_rules n before t)
    → spoils broken ≡ spoils_flex before t
spoils_is broken before t answer =
    rw (answer 52 ∙ x01_row before t, answer 54 ∙ x03_row before t, answer 55 ∙ x04_row before t) refl

pub spoiled_goes_on : (before : List StepView) (t : StepView) → is_spoiled (before ++ t ∷ [])
    ≡ (spoils_flex before t || (is_spoiled before && not (begins_flex before t)))
spoiled_goes_on before t = since_goes_on spoils_flex begins_flex before t

-- At most eight places are kept.
pub kept_is : (places : List Point) (before : List StepView) (t : StepView)
    → places_kept (take 8 places) (current_point before) t ≡ take 8 (places_on places before t)
kept_is places before t = go (is_flex_start t) (is_flex_point t)
  where
    go : (start point : Bool) →
        (if start then current_point before ∷ [] else (if point then take 8 (take 8 places ++ current_point before ∷ []) else take 8 places))
        ≡ take 8 (if start then current_point before ∷ [] else (if point then places ++ current_point before ∷ [] else places))
    go true point = refl
    go false true = take_more 8 places (current_point before ∷ [])
    go false false = refl

-- An end leaves the places, which are eight where the flex isn't spoiled.
pub places_of_end : (before : List StepView) (t : StepView) → is_flex_end t ≡ true → flex_places (before ++ t ∷ []) ≡ flex_places before
places_of_end before t ends =
    places_go_on before t ∙ rw (is_other 1 0 t _ (is_called 0 3 t ends).top refl, end_is_no_point t ends) refl

pub not_or : (a b : Bool) → (a || b) ≡ false → (a ≡ false) × (b ≡ false)
not_or false false is = (refl, refl)
not_or false true is = let no : true ≡ false = is in cc
not_or true b is = let no : true ≡ false = is in cc

seven : (m p : ℕ) (point end : Bool) → end ≡ true → ((point && not (m == p + 1)) || (end && not (m == 7 && p == 7))) ≡ false → (m ≡ 7) × (p ≡ 7)
seven m p point true is fine = by_end (m == 7) (p == 7) refl refl (not_or (point && not (m == p + 1)) _ fine).1
  where
    by_end : (a b : Bool) → (m == 7) ≡ a → (p == 7) ≡ b → (true && not (a && b)) ≡ false → (m ≡ 7) × (p ≡ 7)
    by_end true true d e fine = (eqb-true m 7 d, eqb-true p 7 e)
    by_end true false d e fine = let no : true ≡ false = fine in cc
    by_end false b d e fine = let no : true ≡ false = fine in cc
seven m p point false is fine = let no : false ≡ true = is in cc

unand : (a b : Bool) → b ≡ true → (a && b) ≡ false → a ≡ false
unand false b inside is = refl
unand true true inside is = let no : true ≡ false = is in cc
unand true false inside is = let no : false ≡ true = inside in cc

-- At the end of a flex that isn't spoiled there were seven moves and seven points.
pub seven_each : (before : List StepView) (t : StepView) → is_flex_end t ≡ true → in_flex before ≡ true → is_spoiled (before ++ t ∷ []) ≡ false
    → (flex_moves before ≡ 7) × (flex_points before ≡ 7)
seven_each before t ends inside whole =
    let parts = not_or _ _ (sym (spoiled_goes_on before t) ∙ whole) in
    let fine = (not_or _ _ (not_or _ _ parts.0).1).1 in
    seven (flex_moves before) (flex_points before) (is_flex_point t) (is_flex_end t) ends (unand _ (in_flex before) inside fine)

pub eight_places : (before : List StepView) (t : StepView) → is_flex_end t ≡ true → in_flex before ≡ true → is_spoiled (before ++ t ∷ []) ≡ false
    → length (flex_places before) ≡ 8
eight_places before t ends inside whole = places_counted before inside ∙ ap suc (seven_each before t ends inside whole).1

-- The end of a flex that is drawn.
pub record IsWhole (before : List StepView) (t : StepView) : Type 0 where
  pub ends : is_flex_end t ≡ true
  pub inside : in_flex before ≡ true
  pub sound : is_spoiled (before ++ t ∷ []) ≡ false
  pub unspoiled : is_spoiled before ≡ false

pub is_whole_flex : (before : List StepView) (t : StepView) → draws_flex before t ≡ true → IsWhole before t
is_whole_flex before t draws =
    let whole = and_both (is_flex_end t && in_flex before) (not (is_spoiled (before ++ t ∷ []))) draws in
    let ends = and_both (is_flex_end t) (in_flex before) whole.0 in
    let sound : is_spoiled (before ++ t ∷ []) ≡ false = un_not (is_spoiled (before ++ t ∷ [])) whole.1 in
    let parts = not_or (spoils_flex before t) _ (sym (spoiled_goes_on before t) ∙ sound) in
    record {
      ends = ends.0;
      inside = ends.1;
      sound = sound;
      unspoiled = before_it (is_spoiled before) (is_flex_start t) (is_other 1 0 t _ (is_called 0 3 t ends.0).top refl) parts.1;
    }
  where
    un_not : (a : Bool) → not a ≡ true → a ≡ false
    un_not false is = refl
    un_not true is = let no : false ≡ true = is in cc

    before_it : (spoiled start : Bool) → start ≡ false → (spoiled && not (start && not (in_flex before))) ≡ false → spoiled ≡ false
    before_it false start no_start is = refl
    before_it true false no_start is = let no : true ≡ false = is in cc
    before_it true true no_start is = let no : true ≡ false = no_start in cc

-- What is kept of them is enough for the curves.
pub curves_kept : (there : Bool) (before : List StepView) (t : StepView) → draws_flex before t ≡ true
    → flex_curves there (take 8 (flex_places (before ++ t ∷ []))) ≡ flex_curves there (flex_places before)
curves_kept there before t draws =
    let whole = is_whole_flex before t draws in
    let eight : length (flex_places before) ≡ 8 = eight_places before t whole.ends whole.inside whole.sound in
    ap (λ places. flex_curves there (take 8 places)) (places_of_end before t whole.ends)
    ∙ ap (flex_curves there) (take_all 8 (flex_places before) (omega (arith, eight)))
