-- A stem that nothing touches is set at a step.
use Rattle.std.proofs.Common.{◌≡◌, ◌+◌, ◌&&◌, ◌||◌, nat_le, ℤ, ℕ, if◌then◌else◌, Bool, true, false, Option, None, Some, is_some, List, [], ◌∷◌, ◌++◌, length, map, option_map, refl, sym, ap, ◌∙◌}
use Rattle.std.proofs.Math.Bool.{or_assoc, or-false}
use Rattle.std.proofs.lemmas.Bool.Decides.{Decides-int_eq}
use Rattle.std.proofs.lemmas.List.Folds.{list_any-append}
use Rattle.std.specs.Bool.{then_some}
use Rattle.std.specs.List.{find, list_any}
use Rattle.std.specs.Option.{option_or}
use Rattle.std.specs.Ordering.{int_eq}
use Rattle.t1_char.specs.Since.{Test, any_from}
use Rattle.t1_char.specs.Steps.{StepView}
use Rattle.t1_drawing.specs.declared.direction.Direction.{Direction}
use Rattle.t1_drawing.specs.declared.direction.Direction.TheVariants.{Across, Upright}
use Rattle.t1_drawing.specs.declared.touching.UntouchedStem.{UntouchedStem}
use Rattle.t1_drawing.specs.Strokes.{Stroke, strokes_after}
use Rattle.t1_drawing.specs.Touching.{SetStem, coordinate, count_in, first_in, has_edges_of, is_untouched, set_after, set_at, set_from, sidebearing_point, stems_of_glyph, stems_set, untouched_of, with_stem, with_stems}
use Rattle.t1_rules.specs.declared.step_rules.stems.Stem.{Stem}
use Rattle.t1_rules.specs.StepRules.Stems.{most_stems}
use Rattle.t1_reasons.specs.Carried.{carried_from, first_on}
use Rattle.t1_reasons.specs.DrawingLaws.{LeftStemsAreSet}
use Rattle.t1_reasons.specs.StemSearches.{has_edges, set_first, sets}

-- There is a first such step where one of them is such.
stays : (test : Test) (n : ℕ) (before steps : List StepView) → is_some (carried_from (first_on test) (Some n) before steps) ≡ true
stays test n before [] = refl
stays test n before (s ∷ ss) = stays test n (before ++ s ∷ []) ss

first_where_any : (test : Test) (before steps : List StepView) → is_some (carried_from (first_on test) None before steps) ≡ any_from test before steps
first_where_any test before [] = refl
first_where_any test before (s ∷ ss) = go (test before s) (first_where_any test (before ++ s ∷ []) ss)
  where
    go : (b : Bool) → is_some (carried_from (first_on test) None (before ++ s ∷ []) ss) ≡ any_from test (before ++ s ∷ []) ss
        → is_some (carried_from (first_on test) (option_or None (then_some b (length before + 1))) (before ++ s ∷ []) ss)
        ≡ (b || any_from test (before ++ s ∷ []) ss)
    go true later = stays test (length before + 1) (before ++ s ∷ []) ss
    go false later = later

-- The edges of a stem that is set.
abbrev alike : UntouchedStem → SetStem → Bool
alike stem s = int_eq stem.low s.low && int_eq stem.high s.high

one_mapped : (stem : UntouchedStem) (start : ℤ) (later : List Stroke) (owns : List Stem)
    → list_any (alike stem) (map (set_from start later) owns) ≡ list_any (has_edges stem start) owns
one_mapped stem start later [] = refl
one_mapped stem start later (own ∷ owns) = ap (λ b. has_edges stem start own || b) (one_mapped stem start later owns)

one_set : (stem : UntouchedStem) (before steps : List StepView)
    → list_any (alike stem) (set_after stem.direction before steps) ≡ any_from (sets stem) before steps
one_set stem before [] = refl
one_set stem before (s ∷ ss) =
    list_any-append (alike stem) (set_at stem.direction before s ss) (set_after stem.direction (before ++ s ∷ []) ss)
    ∙ rw (
      one_mapped stem (coordinate stem.direction (sidebearing_point before)) (strokes_after (before ++ s ∷ []) ss) (stems_set stem.direction s),
      one_set stem (before ++ s ∷ []) ss,
    ) refl

-- A stem of the glyph is one of those that are set.
one_kept : (p : SetStem → Bool) (stems : List SetStem) (more : List SetStem) → list_any p (with_stems stems more) ≡ true
    → (list_any p stems || list_any p more) ≡ true
one_kept p stems [] is = or-false (list_any p stems) ∙ is
one_kept p stems (m ∷ ms) is =
    go (list_any (has_edges_of m) stems || nat_le most_stems (length stems)) (one_kept p (with_stem stems m) ms is)
  where
    among : (a b c : Bool) → (a || c) ≡ true → (a || (b || c)) ≡ true
    among true b c is = refl
    among false true c is = refl
    among false false c is = is

    go : (none : Bool) → (list_any p (if none then stems else stems ++ m ∷ []) || list_any p ms) ≡ true
        → (list_any p stems || (p m || list_any p ms)) ≡ true
    go true is = among (list_any p stems) (p m) (list_any p ms) is
    go false is =
        sym (ap (λ b. b || list_any p ms) (list_any-append p stems (m ∷ []) ∙ ap (λ b. list_any p stems || b) (or-false (p m)))
        ∙ or_assoc (list_any p stems) (p m) (list_any p ms)) ∙ is

one_found : (q p : SetStem → Bool) (stems : List SetStem) (s : SetStem) → find q stems ≡ Some s → p s ≡ true → list_any p stems ≡ true
one_found q p [] s is same = cc
one_found q p (t ∷ ts) s is same = go (q t) is (one_found q p ts s)
  where
    either : (b c : Bool) → c ≡ true → (b || c) ≡ true
    either true c is = refl
    either false c is = is

    go : (b : Bool) → (if b then Some t else find q ts) ≡ Some s → (find q ts ≡ Some s → p s ≡ true → list_any p ts ≡ true) → (p t || list_any p ts) ≡ true
    go true is later = let here : t ≡ s = cc in ap (λ b. b || list_any p ts) (ap p here ∙ same)
    go false is later = either (p t) (list_any p ts) (later is same)

along : (stem : UntouchedStem) (steps : List StepView) (s : SetStem) → first_in stem.direction steps ≡ Some s → alike stem s ≡ true
    → is_some (set_first stem steps) ≡ true
along stem steps s is same =
    let d = stem.direction in
    first_where_any (sets stem) [] steps ∙ sym (one_set stem [] steps)
    ∙ one_kept (alike stem) [] (set_after d [] steps) (one_found (is_untouched d) (alike stem) (stems_of_glyph d steps) s is same)

own_edges : (direction : Direction) (count : ℕ) (s : SetStem) → alike (untouched_of direction count s) s ≡ true
own_edges direction count s = rw ((Decides-int_eq s.low s.low).1 refl, (Decides-int_eq s.high s.high).1 refl) refl

pub left_stems_are_set : LeftStemsAreSet
left_stems_are_set steps stem is = go (first_in Across steps) (first_in Upright steps) refl refl is
  where
    count : ℕ
    count = count_in Across steps + count_in Upright steps

    go : (one other : Option SetStem) → first_in Across steps ≡ one → first_in Upright steps ≡ other
        → option_or (option_map (untouched_of Across count) one) (option_map (untouched_of Upright count) other) ≡ Some stem
        → is_some (set_first stem steps) ≡ true
    go (Some s) other e f here =
        let same : untouched_of Across count s ≡ stem = cc in
        ap (λ x. is_some (set_first x steps)) (sym same) ∙ along (untouched_of Across count s) steps s e (own_edges Across count s)
    go None (Some s) e f here =
        let same : untouched_of Upright count s ≡ stem = cc in
        ap (λ x. is_some (set_first x steps)) (sym same) ∙ along (untouched_of Upright count s) steps s f (own_edges Upright count s)
    go None None e f here = cc
