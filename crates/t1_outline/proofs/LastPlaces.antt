-- In a flex that isn't spoiled the current point is at the last place, where no move waits for its point.
use Rattle.std.proofs.Common.{◌≡◌, ℕ, suc, ◌+◌, ◌≤◌, ◌==◌, ◌&&◌, ◌||◌, not, if◌then◌else◌, Bool, true, false, ℤ, List, [], ◌∷◌, ◌++◌, append_assoc, append-nil, refl, sym, subst, ◌∙◌, arith}
use Rattle.std.proofs.lemmas.Bool.{eqb-true}
use Rattle.t1_char.specs.declared.command.Command.TheVariants.{Callothersubr, Vmoveto, Rlineto, Hlineto, Vlineto, Rrcurveto, Rmoveto, Hmoveto, Vhcurveto, Hvcurveto, Hsbw, Sbw, Setcurrentpoint}
use Rattle.t1_char.specs.declared.token.CharToken.{CharToken}
use Rattle.t1_char.specs.declared.token.CharToken.TheVariants.{Command}
use Rattle.t1_char.specs.Arguments.{calls_othersubr, is_callothersubr, is_flex_end, is_flex_point, is_flex_start, is_whole}
use Rattle.t1_char.specs.Stacks.{from_top}
use Rattle.t1_char.specs.Steps.{StepView}
use Rattle.t1_char.proofs.LookingBack.{since_goes_on}
use Rattle.t1_outline.specs.Outlines.{flex_places, is_spoiled}
use Rattle.t1_outline.proofs.Flexes.{not_or, places_go_on, spoiled_goes_on}
use Rattle.t1_rules.specs.declared.step_rules.flex.Point.{Point}
use Rattle.t1_rules.specs.StepRules.Flex.{current_point, displacement_of, flex_moves, flex_points, moving, origin}
use Rattle.t1_rules.specs.StepRules.Paths.{flex_end, flex_start, in_flex}
use Rattle.t1_rules.specs.StepRules.Tokens.{clears, is_move, sets_point}
use Rattle.t1_rules.proofs.Lemmas.Before.{counted_on}
use Rattle.t1_rules.proofs.Lemmas.Flex.{plus_origin, point_goes_on}
use Rattle.t1_rules.proofs.Lemmas.OthersubrCalls.{and_both}

-- The last of some places, or this one.
abbrev pub last_place : Point → List Point → Point
last_place p [] = p
last_place p (q ∷ qs) = last_place q qs

last_kept : (p : Point) (places : List Point) (q : Point) → last_place p (places ++ q ∷ []) ≡ q
last_kept p [] q = refl
last_kept p (r ∷ places) q = last_kept r places q

-- What is no command that takes arguments from the bottom of the stack leaves the current point.
quiet_token : (token : CharToken) → clears token ≡ false → (sets_point token ≡ false) × ((v : List ℤ) → displacement_of token v ≡ origin)
quiet_token (Command Rmoveto) none = let no : true ≡ false = none in cc
quiet_token (Command Hmoveto) none = let no : true ≡ false = none in cc
quiet_token (Command Vmoveto) none = let no : true ≡ false = none in cc
quiet_token (Command Rlineto) none = let no : true ≡ false = none in cc
quiet_token (Command Hlineto) none = let no : true ≡ false = none in cc
quiet_token (Command Vlineto) none = let no : true ≡ false = none in cc
quiet_token (Command Rrcurveto) none = let no : true ≡ false = none in cc
quiet_token (Command Vhcurveto) none = let no : true ≡ false = none in cc
quiet_token (Command Hvcurveto) none = let no : true ≡ false = none in cc
quiet_token (Command Hsbw) none = let no : true ≡ false = none in cc
quiet_token (Command Sbw) none = let no : true ≡ false = none in cc
quiet_token (Command Setcurrentpoint) none = let no : true ≡ false = none in cc
quiet_token (Command _) none = (refl, λ v. refl)
quiet_token _ none = (refl, λ v. refl)

pub stays : (before : List StepView) (t : StepView) → clears t.token ≡ false → current_point (before ++ t ∷ []) ≡ current_point before
stays before t none =
    let quiet = quiet_token t.token none in
    point_goes_on before t ∙ rw (quiet.0, quiet.1 t.stack) (plus_origin (current_point before))

call_clears_none : (token : CharToken) → is_callothersubr token ≡ true → clears token ≡ false
call_clears_none (Command Callothersubr) is = refl
call_clears_none (Command _) is = let no : false ≡ true = is in cc
call_clears_none _ is = let no : false ≡ true = is in cc

pub called_clears_none : (number count : ℕ) (t : StepView) → calls_othersubr number count t ≡ true → clears t.token ≡ false
called_clears_none number count t is =
    call_clears_none t.token
    (and_both (is_callothersubr t.token) _ (and_both _ (is_whole number (from_top t.stack 0)) (and_both _ (is_whole count (from_top t.stack 1)) is).0).0).0

-- A move takes arguments from the bottom of the stack.
move_clears : (token : CharToken) → is_move token ≡ true → clears token ≡ true
move_clears (Command Rmoveto) is = refl
move_clears (Command Hmoveto) is = refl
move_clears (Command Vmoveto) is = refl
move_clears (Command _) is = let no : false ≡ true = is in cc
move_clears _ is = let no : false ≡ true = is in cc

-- While no move waits for its point, the current point is at the last place; and no more points come than moves.
pub record AreAtPlace (inside spoiled : Bool) (moves points : ℕ) (last point : Point) : Type 0 where
  pub few : inside ≡ true → spoiled ≡ false → points ≤ moves
  pub at : inside ≡ true → spoiled ≡ false → moves ≡ points → last ≡ point

abbrev pub IsAtPlace : List StepView → Type 0
IsAtPlace before =
    AreAtPlace (in_flex before) (is_spoiled before) (flex_moves before) (flex_points before) (last_place origin (flex_places before)) (current_point before)

-- What a step does to these, by what it is.
place_on : (start point end move clear inside spoiled : Bool) (moves points : ℕ) (places : List Point) (p q : Point)
    → (clear ≡ false → q ≡ p) → (start ≡ true → clear ≡ false) → (point ≡ true → clear ≡ false) → (move ≡ true → clear ≡ true)
    → AreAtPlace inside spoiled moves points (last_place origin places) p
    → AreAtPlace (start || (inside && not end))
    (((start && inside) || ((clear && not move && inside)
    || (((point && not (moves == points + 1)) || (end && not (moves == 7 && points == 7))) && inside))) || (spoiled && not (start && not inside)))
    (if start then 0 else (if move then suc moves else moves)) (if start then 0 else (if point then suc points else points))
    (last_place origin (if start then p ∷ [] else (if point then places ++ p ∷ [] else places))) q
place_on true point end move clear inside spoiled moves points places p q quiet start_quiet point_quiet move_clear old = record {
  few = λ is whole. omega arith;
  at = λ is whole same. sym (quiet (start_quiet refl));
}
place_on false point end move clear false spoiled moves points places p q quiet start_quiet point_quiet move_clear old = record {
  few = λ is whole. let no : false ≡ true = is in cc;
  at = λ is whole same. let no : false ≡ true = is in cc;
}
place_on false point true move clear true spoiled moves points places p q quiet start_quiet point_quiet move_clear old = record {
  few = λ is whole. let no : false ≡ true = is in cc;
  at = λ is whole same. let no : false ≡ true = is in cc;
}
place_on false point false move clear true true moves points places p q quiet start_quiet point_quiet move_clear old = record {
  few = λ is whole. let no : true ≡ false = (not_or _ true whole).1 in cc;
  at = λ is whole same. let no : true ≡ false = (not_or _ true whole).1 in cc;
}
place_on false true false move true true false moves points places p q quiet start_quiet point_quiet move_clear old =
    let no : true ≡ false = point_quiet refl in cc
place_on false true false true false true false moves points places p q quiet start_quiet point_quiet move_clear old =
    let no : false ≡ true = move_clear refl in cc
place_on false true false false false true false moves points places p q quiet start_quiet point_quiet move_clear old = record {
  few = λ is whole. omega (arith, paired (moves == points + 1) refl whole);
  at = λ is whole same. last_kept origin places p ∙ sym (quiet refl);
}
  where
    paired : (b : Bool) → (moves == points + 1) ≡ b → ((((true && not b) || false) && true) || false) ≡ false → moves ≡ points + 1
    paired true e fine = eqb-true moves (points + 1) e
    paired false e fine = let no : true ≡ false = fine in cc
place_on false false false true clear true false moves points places p q quiet start_quiet point_quiet move_clear old = record {
  few = λ is whole. omega (arith, old.few refl refl);
  at = λ is whole same. absurd (omega (arith, old.few refl refl, same));
}
place_on false false false false true true false moves points places p q quiet start_quiet point_quiet move_clear old = record {
  few = λ is whole. let no : true ≡ false = whole in cc;
  at = λ is whole same. let no : true ≡ false = whole in cc;
}
place_on false false false false false true false moves points places p q quiet start_quiet point_quiet move_clear old = record {
  few = λ is whole. old.few refl refl;
  at = λ is whole same. old.at refl refl same ∙ sym (quiet refl);
}

at_place_on : (before : List StepView) (t : StepView) → IsAtPlace before → IsAtPlace (before ++ t ∷ [])
at_place_on before t old =
    rw (
      since_goes_on flex_start flex_end before t,
      spoiled_goes_on before t,
      counted_on moving is_flex_start before t,
      counted_on is_flex_point is_flex_start before t,
      places_go_on before t,
    )
    (place_on (is_flex_start t) (is_flex_point t) (is_flex_end t) (is_move t.token) (clears t.token) (in_flex before) (is_spoiled before)
    (flex_moves before) (flex_points before) (flex_places before) (current_point before) (current_point (before ++ t ∷ []))
    (stays before t) (called_clears_none 1 0 t) (called_clears_none 2 0 t) (move_clears t.token) old)

at_place_from : (front steps : List StepView) → IsAtPlace front → IsAtPlace (front ++ steps)
at_place_from front [] old = subst IsAtPlace (sym (append-nil front)) old
at_place_from front (s ∷ ss) old = subst IsAtPlace (append_assoc front (s ∷ []) ss) (at_place_from (front ++ s ∷ []) ss (at_place_on front s old))

pub is_at_place : (before : List StepView) → IsAtPlace before
is_at_place before = at_place_from [] before (record {
  few = λ is whole. let no : false ≡ true = is in cc;
  at = λ is whole same. let no : false ≡ true = is in cc;
})
