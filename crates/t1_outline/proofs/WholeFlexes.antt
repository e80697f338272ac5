-- Just a flex of seven pairs is drawn, and it draws two curves.
use Rattle.std.proofs.Common.{◌≡◌, ℕ, suc, ◌+◌, ◌<◌, ◌==◌, ◌&&◌, ◌||◌, not, if◌then◌else◌, Bool, true, false, List, [], ◌∷◌, ◌++◌, length, append_assoc, append-nil, refl, sym, ap, subst, ◌∙◌, arith}
use Rattle.std.proofs.Math.Bool.{and-false}
use Rattle.std.proofs.lemmas.Bool.{eqb-true}
use Rattle.t1_char.specs.declared.command.Command.TheVariants.{Callothersubr, Rmoveto, Hmoveto, Vmoveto}
use Rattle.t1_char.specs.declared.token.CharToken.{CharToken}
use Rattle.t1_char.specs.declared.token.CharToken.TheVariants.{Command}
use Rattle.t1_char.specs.Arguments.{is_callothersubr, is_flex_end, is_flex_point, is_flex_start}
use Rattle.t1_char.specs.Steps.{StepView}
use Rattle.t1_char.proofs.LookingBack.{since_goes_on}
use Rattle.t1_outline.specs.declared.segment.Segment.TheVariants.{Curve}
use Rattle.t1_outline.specs.Laws.Flexes.{ArePairs, none, and_aside, and_move, and_point, FlexesAreTwoCurves, IsAside, IsWholeFlex, OtherFlexesDrawNothing, WholeFlexesAreDrawn}
use Rattle.t1_outline.specs.Outlines.{draws_flex, flex_curves, flex_places, has_subpath, is_spoiled, spoils_flex, with_opening}
use Rattle.t1_outline.proofs.Closed.{call_of}
use Rattle.t1_outline.proofs.Flexes.{eight_places, is_whole_flex, not_or, seven_each, spoiled_goes_on}
use Rattle.t1_outline.proofs.LastPlaces.{called_clears_none}
use Rattle.t1_outline.proofs.Subpaths.{no_stroke}
use Rattle.t1_rules.specs.declared.step_rules.flex.Point.{Point}
use Rattle.t1_rules.specs.StepRules.Flex.{current_point, flex_moves, flex_points, moving}
use Rattle.t1_rules.specs.StepRules.Paths.{flex_end, flex_start, in_flex}
use Rattle.t1_rules.specs.StepRules.Tokens.{clears, closes, is_line, is_move}
use Rattle.t1_rules.proofs.Lemmas.Before.{counted_on}
use Rattle.t1_rules.proofs.Lemmas.FlexPairs.{end_is_no_point, is_other}
use Rattle.t1_rules.proofs.Lemmas.OthersubrCalls.{is_called}

-- What a token is, that is a move or calls an OtherSubr.
move_is : (token : CharToken) → is_move token ≡ true → is_callothersubr token ≡ false
move_is (Command Rmoveto) is = refl
move_is (Command Hmoveto) is = refl
move_is (Command Vmoveto) is = refl
move_is (Command _) is = let no : false ≡ true = is in cc
move_is _ is = let no : false ≡ true = is in cc

call_is : (token : CharToken) → is_callothersubr token ≡ true → (is_move token ≡ false) × (is_line token ≡ false) × (closes token ≡ false)
call_is (Command Callothersubr) is = (refl, refl, refl)
call_is (Command _) is = let no : false ≡ true = is in cc
call_is _ is = let no : false ≡ true = is in cc

no_call : (t : StepView) → is_callothersubr t.token ≡ false → (is_flex_start t ≡ false) × (is_flex_point t ≡ false) × (is_flex_end t ≡ false)
no_call t e = (rw e refl, rw e refl, rw e refl)

clear_or_move : (token : CharToken) → clears token ≡ false → is_move token ≡ false
clear_or_move (Command Rmoveto) is = let no : true ≡ false = is in cc
clear_or_move (Command Hmoveto) is = let no : true ≡ false = is in cc
clear_or_move (Command Vmoveto) is = let no : true ≡ false = is in cc
clear_or_move (Command _) is = refl
clear_or_move _ is = refl

abbrev half : Bool → ℕ
half true = 1
half false = 0

-- One is in flex, it isn't spoiled, and there were so many moves and points.
record IsIn (steps : List StepView) (moves points : ℕ) : Type 0 where
  inside : in_flex steps ≡ true
  sound : is_spoiled steps ≡ false
  moved : flex_moves steps ≡ moves
  pointed : flex_points steps ≡ points

same_count : (n : ℕ) → (n == n) ≡ true
same_count n = grind arith

-- A step within it that spoils nothing, and what it counts.
in_on : (steps : List StepView) (t : StepView) (moves points more_moves more_points : ℕ) (move point : Bool) → IsIn steps moves points
    → is_flex_start t ≡ false → is_flex_end t ≡ false → spoils_flex steps t ≡ false → is_move t.token ≡ move → is_flex_point t ≡ point
    → (if move then suc moves else moves) ≡ more_moves → (if point then suc points else points) ≡ more_points
    → IsIn (steps ++ t ∷ []) more_moves more_points
in_on steps t moves points more_moves more_points move point is no_start no_end fine a_move a_point more_moved more_pointed = record {
  inside = since_goes_on flex_start flex_end steps t ∙ rw (no_start, no_end, is.inside) refl;
  sound = spoiled_goes_on steps t ∙ rw (fine, is.sound) refl;
  moved = counted_on moving is_flex_start steps t ∙ rw (no_start, a_move, is.moved) more_moved;
  pointed = counted_on is_flex_point is_flex_start steps t ∙ rw (no_start, a_point, is.pointed) more_pointed;
}

-- After a start outside flex.
in_begun : (front : List StepView) (start : StepView) → in_flex front ≡ false → is_flex_start start ≡ true → IsIn (front ++ start ∷ []) 0 0
in_begun front start outside starts =
    record {
      inside = since_goes_on flex_start flex_end front start ∙ rw starts refl;
      sound = spoiled_goes_on front start ∙ unspoiled (in_flex front) outside;
      moved = counted_on moving is_flex_start front start ∙ rw starts refl;
      pointed = counted_on is_flex_point is_flex_start front start ∙ rw starts refl;
    }
  where
    unspoiled : (b : Bool) → b ≡ false → ((is_flex_start start && b) || ((clears start.token && not (is_move start.token) && b)
        || (((is_flex_point start && not (flex_moves front == flex_points front + 1)) || (is_flex_end start && not (flex_moves front == 7 && flex_points front == 7)))
        && b)) || (is_spoiled front && not (is_flex_start start && not b))) ≡ false
    unspoiled true is = let no : true ≡ false = is in cc
    unspoiled false is = rw (
      starts,
      and-false (clears start.token && not (is_move start.token)),
      and-false ((is_flex_point start && not (flex_moves front == flex_points front + 1)) || (is_flex_end start && not (flex_moves front == 7 && flex_points front == 7))),
      and-false (is_spoiled front),
    ) refl

pairs_in : (front : List StepView) (start : StepView) → in_flex front ≡ false → is_flex_start start ≡ true → (n : ℕ) (is_half : Bool) (pairs : List StepView)
    → ArePairs n is_half pairs → IsIn ((front ++ start ∷ []) ++ pairs) (n + half is_half) n
pairs_in front start outside starts _ _ _ none = rw (append-nil (front ++ start ∷ [])) (in_begun front start outside starts)
pairs_in front start outside starts _ _ _ (and_aside n is_half steps t pairs aside) =
    let old = pairs_in front start outside starts n is_half steps pairs in
    rw (sym (append_assoc (front ++ start ∷ []) steps (t ∷ [])))
    (in_on _ t _ _ _ _ false false old aside.no_start aside.no_end (rw (aside.no_start, aside.no_command, aside.no_point, aside.no_end) refl)
    (clear_or_move t.token aside.no_command) aside.no_point refl refl)
pairs_in front start outside starts _ _ _ (and_move n steps t pairs move) =
    let old = pairs_in front start outside starts n false steps pairs in
    let quiet = no_call t (move_is t.token move) in
    rw (sym (append_assoc (front ++ start ∷ []) steps (t ∷ [])))
    (in_on _ t _ _ _ _ true false old quiet.0 quiet.2 (rw (quiet.0, quiet.1, quiet.2, move, and-false (clears t.token)) refl)
    move quiet.1 (omega arith) refl)
pairs_in front start outside starts _ _ _ (and_point n steps t pairs point) =
    let old = pairs_in front start outside starts n true steps pairs in
    let no_start = is_other 1 0 t _ (is_called 2 0 t point).top refl in
    let no_end = is_other 0 3 t _ (is_called 2 0 t point).top refl in
    rw (sym (append_assoc (front ++ start ∷ []) steps (t ∷ [])))
    (in_on _ t _ _ _ _ false true old no_start no_end
    (rw (no_start, no_end, point, called_clears_none 2 0 t point, old.moved, old.pointed, same_count (n + 1)) refl)
    (call_is t.token (call_of 2 0 t point)).0 point (omega arith) (omega arith))

drawn_if_whole : (before : List StepView) (end : StepView) → IsWholeFlex before end → draws_flex before end ≡ true
drawn_if_whole before end w =
    let old : IsIn before 7 7 = subst (λ steps. IsIn steps 7 7) (sym w.is) (pairs_in w.front w.start w.outside w.starts 7 false w.pairs w.seven) in
    let no_start = is_other 1 0 end _ (is_called 0 3 end w.ends).top refl in
    let fine : is_spoiled (before ++ end ∷ []) ≡ false =
    spoiled_goes_on before end
    ∙ rw (no_start, end_is_no_point end w.ends, w.ends, called_clears_none 0 3 end w.ends, old.moved, old.pointed, old.sound) refl in
    rw (w.ends, old.inside, fine) refl

-- What follows the start is pairs, or has a move too many, which the next point or the end shows.
data Pairing (pairs : List StepView) (moves points : ℕ) : Type 0 where
  paired : (n : ℕ) (is_half : Bool) → ArePairs n is_half pairs → moves ≡ n + half is_half → points ≡ n → Pairing pairs moves points
  surplus : points + 1 < moves → Pairing pairs moves points

record Inside (steps : List StepView) : Type 0 where
  front : List StepView
  start : StepView
  pairs : List StepView
  is : steps ≡ (front ++ start ∷ []) ++ pairs
  outside : in_flex front ≡ false
  starts : is_flex_start start ≡ true
  are : Pairing pairs (flex_moves steps) (flex_points steps)

abbrev IsInside : List StepView → Type 0
IsInside steps = in_flex steps ≡ true → is_spoiled steps ≡ false → Inside steps

-- The kinds of a step within a flex that it doesn't spoil.
pairing_on : (pairs : List StepView) (t : StepView) (moves points : ℕ) (move point : Bool) → Pairing pairs moves points
    → is_move t.token ≡ move → is_flex_point t ≡ point → (point ≡ true → moves ≡ points + 1) → (point ≡ true → move ≡ false)
    → (move ≡ false → point ≡ false → IsAside t)
    → Pairing (pairs ++ t ∷ []) (if move then suc moves else moves) (if point then suc points else points)
pairing_on pairs t moves points true true old m p due apart aside = let no : true ≡ false = apart refl in cc
pairing_on pairs t moves points true false (paired n false are moved pointed) m p due apart aside =
    paired n true (and_move n pairs t are m) (omega (arith, moved)) pointed
pairing_on pairs t moves points true false (paired n true are moved pointed) m p due apart aside = surplus (omega (arith, moved, pointed))
pairing_on pairs t moves points true false (surplus more) m p due apart aside = surplus (omega (arith, more))
pairing_on pairs t moves points false true (paired n true are moved pointed) m p due apart aside =
    paired (n + 1) false (and_point n pairs t are p) (omega (arith, moved)) (omega (arith, pointed))
pairing_on pairs t moves points false true (paired n false are moved pointed) m p due apart aside = absurd (omega (arith, moved, pointed, due refl))
pairing_on pairs t moves points false true (surplus more) m p due apart aside = absurd (omega (arith, more, due refl))
pairing_on pairs t moves points false false (paired n is_half are moved pointed) m p due apart aside =
    paired n is_half (and_aside n is_half pairs t are (aside refl refl)) moved pointed
pairing_on pairs t moves points false false (surplus more) m p due apart aside = surplus more

-- What a step that spoils nothing says, within a flex.
record IsSound (t : StepView) (moves points : ℕ) : Type 0 where
  due : is_flex_point t ≡ true → moves ≡ points + 1
  plain : is_move t.token ≡ false → clears t.token ≡ false

sound_step : (t : StepView) (moves points : ℕ) (inside : Bool) → inside ≡ true
    → ((is_flex_start t && inside) || ((clears t.token && not (is_move t.token) && inside)
    || (((is_flex_point t && not (moves == points + 1)) || (is_flex_end t && not (moves == 7 && points == 7))) && inside))) ≡ false
    → IsSound t moves points
sound_step t moves points false is fine = let no : false ≡ true = is in cc
sound_step t moves points true is fine =
    let rest = not_or _ _ (not_or _ _ fine).1 in
    let counts = not_or _ _ (trues _ rest.1) in
    record {
      due = λ point. by_count (moves == points + 1) refl (sym (ap (λ b. b && not (moves == points + 1)) point) ∙ counts.0);
      plain = λ no_move. by_clear (clears t.token) (sym (ap (λ b. clears t.token && not b && true) no_move) ∙ rest.0);
    }
  where
    trues : (a : Bool) → (a && true) ≡ false → a ≡ false
    trues false e = refl
    trues true e = e

    by_count : (b : Bool) → (moves == points + 1) ≡ b → (true && not b) ≡ false → moves ≡ points + 1
    by_count true e fine = eqb-true moves (points + 1) e
    by_count false e fine = let no : true ≡ false = fine in cc

    by_clear : (b : Bool) → (b && not false && true) ≡ false → b ≡ false
    by_clear false e = refl
    by_clear true e = e

inside_begun : (before : List StepView) (t : StepView) → in_flex before ≡ false → is_flex_start t ≡ true → Inside (before ++ t ∷ [])
inside_begun before t outside starts = record {
  front = before;
  start = t;
  pairs = [];
  is = sym (append-nil (before ++ t ∷ []));
  outside = outside;
  starts = starts;
  are = paired 0 false none (counted_on moving is_flex_start before t ∙ rw starts refl) (counted_on is_flex_point is_flex_start before t ∙ rw starts refl);
}

inside_kept : (before : List StepView) (t : StepView) → is_flex_start t ≡ false → is_flex_end t ≡ false → IsSound t (flex_moves before) (flex_points before)
    → Inside before → Inside (before ++ t ∷ [])
inside_kept before t no_start no_end sound old = record {
  front = old.front;
  start = old.start;
  pairs = old.pairs ++ t ∷ [];
  is = ap (λ steps. steps ++ t ∷ []) old.is ∙ append_assoc (old.front ++ old.start ∷ []) old.pairs (t ∷ []);
  outside = old.outside;
  starts = old.starts;
  are = rw (counted_on moving is_flex_start before t, counted_on is_flex_point is_flex_start before t, no_start)
      (pairing_on old.pairs t (flex_moves before) (flex_points before) (is_move t.token) (is_flex_point t) old.are refl refl sound.due
      (λ point. (call_is t.token (call_of 2 0 t point)).0)
      (λ no_move no_point. record { no_command = sound.plain no_move; no_start = no_start; no_point = no_point; no_end = no_end }));
}

inside_on : (before : List StepView) (t : StepView) → IsInside before → IsInside (before ++ t ∷ [])
inside_on before t old = λ is sound.
    let parts = not_or (spoils_flex before t) _ (sym (spoiled_goes_on before t) ∙ sound) in
    go (is_flex_start t) (in_flex before) (is_flex_end t) refl refl refl parts.0 parts.1 (sym (since_goes_on flex_start flex_end before t) ∙ is)
  where
    go : (start inside end : Bool) → is_flex_start t ≡ start → in_flex before ≡ inside → is_flex_end t ≡ end → spoils_flex before t ≡ false
        → (is_spoiled before && not (is_flex_start t && not (in_flex before))) ≡ false
        → (is_flex_start t || (in_flex before && not (is_flex_end t))) ≡ true → Inside (before ++ t ∷ [])
    go true false end s i e fine kept is = inside_begun before t i s
    go true true end s i e fine kept is =
        let twice : (is_flex_start t && in_flex before) ≡ true = rw (s, i) refl in
        let no : true ≡ false = sym twice ∙ (not_or (is_flex_start t && in_flex before) _ fine).0 in cc
    go false false end s i e fine kept is =
        let out : (is_flex_start t || (in_flex before && not (is_flex_end t))) ≡ false = rw (s, i) refl in
        let no : false ≡ true = sym out ∙ is in cc
    go false true true s i e fine kept is =
        let out : (is_flex_start t || (in_flex before && not (is_flex_end t))) ≡ false = rw (s, i, e) refl in
        let no : false ≡ true = sym out ∙ is in cc
    go false true false s i e fine kept is =
        inside_kept before t s e (sound_step t (flex_moves before) (flex_points before) (in_flex before) i fine)
        (old i (unspoiled (is_spoiled before) (sym (ap (λ b. is_spoiled before && not (b && not (in_flex before))) s) ∙ kept)))
      where
        unspoiled : (b : Bool) → (b && not (false && not (in_flex before))) ≡ false → b ≡ false
        unspoiled false e = refl
        unspoiled true e = let no : true ≡ false = e in cc

inside_from : (front steps : List StepView) → IsInside front → IsInside (front ++ steps)
inside_from front [] old = subst IsInside (sym (append-nil front)) old
inside_from front (s ∷ ss) old = subst IsInside (append_assoc front (s ∷ []) ss) (inside_from (front ++ s ∷ []) ss (inside_on front s old))

all_inside : (steps : List StepView) → IsInside steps
all_inside steps = inside_from [] steps (λ is sound. let no : false ≡ true = is in cc)

whole_if_drawn : (before : List StepView) (end : StepView) → draws_flex before end ≡ true → IsWholeFlex before end
whole_if_drawn before end draws =
    let w = is_whole_flex before end draws in
    let inside = all_inside before w.inside w.unspoiled in
    let counts = seven_each before end w.ends w.inside w.sound in
    record {
      front = inside.front;
      start = inside.start;
      pairs = inside.pairs;
      is = inside.is;
      outside = inside.outside;
      starts = inside.starts;
      seven = seven inside.pairs (flex_moves before) (flex_points before) inside.are counts.0 counts.1;
      ends = w.ends;
    }
  where
    seven : (pairs : List StepView) (moves points : ℕ) → Pairing pairs moves points → moves ≡ 7 → points ≡ 7 → ArePairs 7 false pairs
    seven pairs moves points (paired n false are moved pointed) m p = subst (λ k. ArePairs k false pairs) (sym pointed ∙ p) are
    seven pairs moves points (paired n true are moved pointed) m p = absurd (omega (arith, moved, pointed, m, p))
    seven pairs moves points (surplus more) m p = absurd (omega (arith, more, m, p))

pub whole_flexes_are_drawn : WholeFlexesAreDrawn
whole_flexes_are_drawn before end = (whole_if_drawn before end, drawn_if_whole before end)

-- What an end draws.
two_curves : (there : Bool) (places : List Point) → length places ≡ 8
    → (start : Point) × (a : Point) × (b : Point) × (c : Point) × (d : Point) × (e : Point) × (f : Point)
    × (flex_curves there places ≡ with_opening there start (Curve a b c ∷ Curve d e f ∷ []))
two_curves there (start ∷ reference ∷ a ∷ b ∷ c ∷ d ∷ e ∷ f ∷ []) is = (start, a, b, c, d, e, f, refl)
two_curves there [] is = absurd (omega (arith, is))
two_curves there (a ∷ []) is = absurd (omega (arith, is))
two_curves there (a ∷ b ∷ []) is = absurd (omega (arith, is))
two_curves there (a ∷ b ∷ c ∷ []) is = absurd (omega (arith, is))
two_curves there (a ∷ b ∷ c ∷ d ∷ []) is = absurd (omega (arith, is))
two_curves there (a ∷ b ∷ c ∷ d ∷ e ∷ []) is = absurd (omega (arith, is))
two_curves there (a ∷ b ∷ c ∷ d ∷ e ∷ f ∷ []) is = absurd (omega (arith, is))
two_curves there (a ∷ b ∷ c ∷ d ∷ e ∷ f ∷ g ∷ []) is = absurd (omega (arith, is))
two_curves there (a ∷ b ∷ c ∷ d ∷ e ∷ f ∷ g ∷ h ∷ i ∷ more) is = absurd (omega (arith, is))

pub flexes_are_two_curves : FlexesAreTwoCurves
flexes_are_two_curves before end draws =
    let w = is_whole_flex before end draws in
    let kind = call_is end.token (call_of 0 3 end w.ends) in
    let curves = two_curves (has_subpath before) (flex_places before) (eight_places before end w.ends w.inside w.sound) in
    record {
      start = curves.0;
      a = curves.1;
      b = curves.2;
      c = curves.3;
      d = curves.4;
      e = curves.5;
      f = curves.6;
      are = rw (kind.0, draws) curves.7;
    }

pub other_flexes_draw_nothing : OtherFlexesDrawNothing
other_flexes_draw_nothing before end ends draws =
    let kind = call_is end.token (call_of 0 3 end ends) in
    rw (kind.0, draws, no_stroke (current_point before) end.stack end.token kind.1, kind.2) refl
