-- The current point after a step, and the pairs of a flex.
use Rattle.std.proofs.Common.{◌≡◌, ℕ, suc, ◌+◌, ◌<◌, ◌==◌, ◌&&◌, if◌then◌else◌, Bool, true, false, nat_le, nat_lt, ℤ, Some, List, [], ◌∷◌, ◌++◌, length, length-append, slice_get, refl, sym, ◌∙◌, append_assoc, append-nil, arith}
use Rattle.std.proofs.Math.Bool.{and-false}
use Rattle.std.proofs.Math.Seq.{take-append_seam}
use Rattle.std.proofs.lemmas.Bool.{ltb-true, ltb-false}
use Rattle.t1_char.specs.declared.command.Command.TheVariants.{Callothersubr}
use Rattle.t1_char.specs.declared.edition.Edition.{Edition}
use Rattle.t1_char.specs.declared.token.CharToken.{CharToken}
use Rattle.t1_char.specs.declared.token.CharToken.TheVariants.{Command}
use Rattle.t1_char.specs.Arguments.{calls_othersubr, is_callothersubr, is_flex_end, is_flex_point, is_flex_start, is_whole}
use Rattle.t1_char.specs.Stacks.{from_top}
use Rattle.t1_char.specs.Steps.{StepView}
use Rattle.t1_char.proofs.LookingBack.{since_goes_on}
use Rattle.t1_rules.specs.Laws.Flex.{StartsLeadIntoFlex, EndsLeadOutOfFlex, WidthsSetThePoint, StepsMoveThePoint, ClosepathLeavesThePoint, ArePairs, nothing, and_beside, and_move, and_point, SevenPairsAreAFlex}
use Rattle.t1_rules.specs.StepRules.{step_rules, breaks, breaks_at}
use Rattle.t1_rules.specs.StepRules.Flex.{current_point, flex_moves, flex_points, moving}
use Rattle.t1_rules.specs.StepRules.Paths.{flex_start, flex_end, in_flex}
use Rattle.t1_rules.specs.StepRules.Tokens.{is_move}
use Rattle.t1_rules.proofs.Lemmas.Before.{counted_on}
use Rattle.t1_rules.proofs.Lemmas.Flex.{plus_origin, point_goes_on}
use Rattle.t1_rules.proofs.Lemmas.OthersubrCalls.{and_both, is_called}
use Rattle.t1_rules.proofs.Lemmas.Rows.{x04_row}
use Rattle.t1_rules.proofs.Lemmas.StepRules.{later_steps_have_no_say}

pub widths_set_the_point : WidthsSetThePoint
widths_set_the_point before step is = point_goes_on before step ∙ rw is refl

pub steps_move_the_point : StepsMoveThePoint
steps_move_the_point before step moves = point_goes_on before step ∙ rw moves refl

pub closepath_leaves_the_point : ClosepathLeavesThePoint
closepath_leaves_the_point before step is = point_goes_on before step ∙ rw is (plus_origin (current_point before))

-- A call of another OtherSubr is none of this one.
pub is_other : (number count : ℕ) (t : StepView) (top : ℤ) → from_top t.stack 0 ≡ top → is_whole number top ≡ false → calls_othersubr number count t ≡ false
is_other number count t top is apart =
    rw (is, apart) (no_third (is_callothersubr t.token) (nat_le (count + 2) (length t.stack)) (is_whole count (from_top t.stack 1)))
  where
    no_third : (a b c : Bool) → (a && b && false && c) ≡ false
    no_third a b c = rw (and-false (a && b)) refl

-- A point and an end are no start, a point is no end, and a move is none of these.
end_is_no_start : (t : StepView) → is_flex_end t ≡ true → is_flex_start t ≡ false
end_is_no_start t e = is_other 1 0 t _ (is_called 0 3 t e).top refl

pub end_is_no_point : (t : StepView) → is_flex_end t ≡ true → is_flex_point t ≡ false
end_is_no_point t e = is_other 2 0 t _ (is_called 0 3 t e).top refl

point_is_no_start : (t : StepView) → is_flex_point t ≡ true → is_flex_start t ≡ false
point_is_no_start t e = is_other 1 0 t _ (is_called 2 0 t e).top refl

point_is_no_end : (t : StepView) → is_flex_point t ≡ true → is_flex_end t ≡ false
point_is_no_end t e = is_other 0 3 t _ (is_called 2 0 t e).top refl

move_is_no_call : (token : CharToken) → is_move token ≡ true → is_callothersubr token ≡ false
move_is_no_call (Command Callothersubr) e = let no : false ≡ true = e in cc
move_is_no_call _ e = refl

call_is_no_move : (token : CharToken) → is_callothersubr token ≡ true → is_move token ≡ false
call_is_no_move (Command Callothersubr) e = refl
call_is_no_move _ e = let no : false ≡ true = e in cc

pub starts_lead_into_flex : StartsLeadIntoFlex
starts_lead_into_flex before t starts = since_goes_on flex_start flex_end before t ∙ rw starts refl

pub ends_lead_out_of_flex : EndsLeadOutOfFlex
ends_lead_out_of_flex before t ends =
    since_goes_on flex_start flex_end before t
    ∙ rw (end_is_no_start t ends, ends) (and-false (in_flex before))

-- The counts of moves and points since the last start, one step further.
pub record Counts (before : List StepView) (moves points : ℕ) : Type 0 where
  pub inside : in_flex before ≡ true
  pub moved : flex_moves before ≡ moves
  pub pointed : flex_points before ≡ points

counts_on : (before : List StepView) (t : StepView) (moves points more_moves more_points : ℕ) (is_one_move is_one_point : Bool) → Counts before moves points
    → is_flex_start t ≡ false → is_flex_end t ≡ false → is_move t.token ≡ is_one_move → is_flex_point t ≡ is_one_point
    → (if is_one_move then suc moves else moves) ≡ more_moves → (if is_one_point then suc points else points) ≡ more_points
    → Counts (before ++ t ∷ []) more_moves more_points
counts_on before t moves points more_moves more_points is_one_move is_one_point counts no_start no_end move point more_moved more_pointed = record {
  inside = since_goes_on flex_start flex_end before t ∙ rw (no_start, no_end, counts.inside) refl;
  moved = counted_on moving is_flex_start before t ∙ rw (no_start, move, counts.moved) more_moved;
  pointed = counted_on is_flex_point is_flex_start before t ∙ rw (no_start, point, counts.pointed) more_pointed;
}

abbrev pub half : Bool → ℕ
half true = 1
half false = 0

-- Calls of no OtherSubr.
no_call_no_flex : (t : StepView) → is_callothersubr t.token ≡ false → (is_flex_start t ≡ false) × ((is_flex_point t ≡ false) × (is_flex_end t ≡ false))
no_call_no_flex t e = (rw e refl, (rw e refl, rw e refl))

call_of : (number count : ℕ) (t : StepView) → calls_othersubr number count t ≡ true → is_callothersubr t.token ≡ true
call_of number count t e = (and_both _ _ (and_both _ _ (and_both _ _ e).0).0).0

-- After a start and pairs one is in flex, with so many moves and points since.
pub counts_of : (before : List StepView) (start : StepView) → is_flex_start start ≡ true → (n : ℕ) (is_half : Bool) (steps : List StepView)
    → ArePairs n is_half steps → Counts ((before ++ start ∷ []) ++ steps) (n + half is_half) n
counts_of before start starts _ _ _ nothing = rw (append-nil (before ++ start ∷ [])) (record {
  inside = starts_lead_into_flex before start starts;
  moved = counted_on moving is_flex_start before start ∙ rw starts refl;
  pointed = counted_on is_flex_point is_flex_start before start ∙ rw starts refl;
})
counts_of before start starts _ _ _ (and_beside n is_half steps t pairs beside) =
    let none = no_call_no_flex t beside.no_call in
    rw (sym (append_assoc (before ++ start ∷ []) steps (t ∷ [])))
    (counts_on _ t _ _ _ _ false false (counts_of before start starts n is_half steps pairs) none.0 none.1.1 beside.no_move none.1.0 refl refl)
counts_of before start starts _ _ _ (and_move n steps t pairs move) =
    let none = no_call_no_flex t (move_is_no_call t.token move) in
    rw (sym (append_assoc (before ++ start ∷ []) steps (t ∷ [])))
    (counts_on _ t _ _ _ _ true false (counts_of before start starts n false steps pairs) none.0 none.1.1 move none.1.0 (omega arith) refl)
counts_of before start starts _ _ _ (and_point n steps t pairs point) =
    rw (sym (append_assoc (before ++ start ∷ []) steps (t ∷ [])))
    (counts_on _ t _ _ _ _ false true (counts_of before start starts n true steps pairs) (point_is_no_start t point) (point_is_no_end t point)
    (call_is_no_move t.token (call_of 2 0 t point)) point (omega arith) (omega arith))

-- No step after the start breaks X04.
abbrev AreFine : Edition → List StepView → List StepView → Type 0
AreFine edition front steps = (place : ℕ) → length front < place → place < length steps → breaks_at (step_rules edition) 55 steps place ≡ false

get_seam : (xs : List StepView) (t : StepView) → slice_get (xs ++ t ∷ []) (length xs) ≡ Some t
get_seam [] t = refl
get_seam (x ∷ xs) t = get_seam xs t

fine_on : (edition : Edition) (front steps : List StepView) (t : StepView) → AreFine edition front steps → breaks (step_rules edition) 55 steps t ≡ false
    → AreFine edition front (steps ++ t ∷ [])
fine_on edition front steps t fine last place above below = go (nat_lt place (length steps)) refl
  where
    go : (b : Bool) → nat_lt place (length steps) ≡ b → breaks_at (step_rules edition) 55 (steps ++ t ∷ []) place ≡ false
    go true less =
        let before : place < length steps = ltb-true place (length steps) less in
        later_steps_have_no_say (step_rules edition) 55 steps (t ∷ []) place before ∙ fine place above before
    go false not_less =
        let at : place ≡ length steps = omega (arith, ltb-false place (length steps) not_less, below, length-append steps (t ∷ [])) in
        rw (at, take-append_seam steps (t ∷ []), get_seam steps t) last

quiet_is_fine : (edition : Edition) (before : List StepView) (t : StepView) → is_callothersubr t.token ≡ false → breaks (step_rules edition) 55 before t ≡ false
quiet_is_fine edition before t none =
    let others = no_call_no_flex t none in
    x04_row edition before t ∙ rw (others.1.0, others.1.1) refl

same_count : (n : ℕ) → (n == n) ≡ true
same_count n = grind arith

point_is_fine : (edition : Edition) (before : List StepView) (t : StepView) (n : ℕ) → Counts before (n + 1) n → is_flex_point t ≡ true
    → breaks (step_rules edition) 55 before t ≡ false
point_is_fine edition before t n counts point =
    x04_row edition before t ∙ rw (counts.moved, counts.pointed, point, point_is_no_end t point, same_count (n + 1)) refl

end_is_fine : (edition : Edition) (before : List StepView) (t : StepView) → Counts before 7 7 → is_flex_end t ≡ true
    → breaks (step_rules edition) 55 before t ≡ false
end_is_fine edition before t counts end =
    x04_row edition before t ∙ rw (counts.moved, counts.pointed, end, end_is_no_point t end) refl

fine_pairs : (edition : Edition) (before : List StepView) (start : StepView) → is_flex_start start ≡ true → (n : ℕ) (is_half : Bool) (steps : List StepView)
    → ArePairs n is_half steps → AreFine edition before ((before ++ start ∷ []) ++ steps)
fine_pairs edition before start starts _ _ _ nothing =
    λ place above below. absurd (omega (arith, above, below, length-append before (start ∷ []), length-append (before ++ start ∷ []) []))
fine_pairs edition before start starts _ _ _ (and_beside n is_half steps t pairs beside) =
    rw (sym (append_assoc (before ++ start ∷ []) steps (t ∷ [])))
    (fine_on edition before _ t (fine_pairs edition before start starts n is_half steps pairs) (quiet_is_fine edition _ t beside.no_call))
fine_pairs edition before start starts _ _ _ (and_move n steps t pairs move) =
    rw (sym (append_assoc (before ++ start ∷ []) steps (t ∷ [])))
    (fine_on edition before _ t (fine_pairs edition before start starts n false steps pairs) (quiet_is_fine edition _ t (move_is_no_call t.token move)))
fine_pairs edition before start starts _ _ _ (and_point n steps t pairs point) =
    rw (sym (append_assoc (before ++ start ∷ []) steps (t ∷ [])))
    (fine_on edition before _ t (fine_pairs edition before start starts n true steps pairs)
    (point_is_fine edition _ t n (counts_of before start starts n true steps pairs) point))

pub seven_pairs_are_a_flex : SevenPairsAreAFlex
seven_pairs_are_a_flex edition before pairs start end starts are_pairs ends place above below =
    let steps = (before ++ start ∷ []) ++ pairs in
    let whole : length (steps ++ end ∷ []) ≡ length before + length pairs + 2 =
    omega (arith, length-append steps (end ∷ []), length-append (before ++ start ∷ []) pairs, length-append before (start ∷ [])) in
    let inside : place < length (steps ++ end ∷ []) = omega (arith, below, whole) in
    fine_on edition before steps end (fine_pairs edition before start starts 7 false pairs are_pairs)
    (end_is_fine edition steps end (counts_of before start starts 7 false pairs are_pairs) ends) place above inside
