-- Where paths begin: the pen stays where a move or a closepath left it, until a step draws.
use Rattle.std.proofs.Common.{◌≡◌, ℤ, ◌&&◌, ◌||◌, not, if◌then◌else◌, Bool, true, false, List, [], ◌∷◌, ◌++◌, append-nil, append_assoc, refl, sym, subst, ◌∙◌}
use Rattle.t1_char.specs.declared.command.Command.TheVariants.{Vmoveto, Rlineto, Hlineto, Vlineto, Rrcurveto, Closepath, Rmoveto, Hmoveto, Vhcurveto, Hvcurveto}
use Rattle.t1_char.specs.declared.token.CharToken.{CharToken}
use Rattle.t1_char.specs.declared.token.CharToken.TheVariants.{Command}
use Rattle.t1_char.specs.Arguments.{is_callothersubr, is_flex_end, is_flex_start}
use Rattle.t1_char.specs.Since.{Test, any_from}
use Rattle.t1_char.specs.Steps.{StepView}
use Rattle.t1_char.proofs.LookingBack.{since_goes_on}
use Rattle.t1_rules.specs.declared.step_rules.flex.Point.{Point}
use Rattle.t1_rules.specs.StepRules.Flex.{current_point, displacement_of, origin}
use Rattle.t1_rules.specs.StepRules.Paths.{drawing, flex_end, flex_start, in_flex}
use Rattle.t1_rules.specs.StepRules.Tokens.{closes, is_line, is_move, sets_point}
use Rattle.t1_rules.proofs.Lemmas.Flex.{plus_origin, point_goes_on}
use Rattle.t1_reasons.proofs.Backgrounds.{carried_on}
use Rattle.t1_reasons.specs.Backgrounds.{end_on, ends_path, is_begun, outer_point, outer_point_on, path_end, path_start, start_on}
use Rattle.t1_reasons.specs.PathStarts.{PathsBeginWhereThePenWasLeft, PathsEndWhereThePenWasLeft, stirs}

neither : (a b : Bool) → (a || b) ≡ false → (a ≡ false) × (b ≡ false)
neither false b is = (refl, is)
neither true b is = let no : true ≡ false = is in cc

-- What holds of the steps before, and is kept by each step that isn't such, holds after them all.
kept_over : (e : Test) (Holds : List StepView → Type 0)
    → ((steps : List StepView) (t : StepView) → Holds steps → e steps t ≡ false → Holds (steps ++ t ∷ []))
    → (front ss : List StepView) → any_from e front ss ≡ false → Holds front → Holds (front ++ ss)
kept_over e Holds on front [] none old = subst Holds (sym (append-nil front)) old
kept_over e Holds on front (s ∷ ss) none old =
    let each = neither (e front s) _ none in
    subst Holds (append_assoc front (s ∷ []) ss) (kept_over e Holds on (front ++ s ∷ []) ss each.1 (on front s old each.0))

-- ---- tokens

no_displacement : (token : CharToken) (v : List ℤ) → is_move token ≡ false → is_line token ≡ false → displacement_of token v ≡ origin
no_displacement (Command Rmoveto) v move line = let no : true ≡ false = move in cc
no_displacement (Command Hmoveto) v move line = let no : true ≡ false = move in cc
no_displacement (Command Vmoveto) v move line = let no : true ≡ false = move in cc
no_displacement (Command Rlineto) v move line = let no : true ≡ false = line in cc
no_displacement (Command Hlineto) v move line = let no : true ≡ false = line in cc
no_displacement (Command Vlineto) v move line = let no : true ≡ false = line in cc
no_displacement (Command Rrcurveto) v move line = let no : true ≡ false = line in cc
no_displacement (Command Vhcurveto) v move line = let no : true ≡ false = line in cc
no_displacement (Command Hvcurveto) v move line = let no : true ≡ false = line in cc
no_displacement (Command _) v move line = refl
no_displacement _ v move line = refl

move_or_close : (token : CharToken) (inside : Bool) → ((is_move token && not inside) || closes token) ≡ true
    → (is_callothersubr token ≡ false) × (is_line token ≡ false)
move_or_close (Command Rmoveto) inside is = (refl, refl)
move_or_close (Command Hmoveto) inside is = (refl, refl)
move_or_close (Command Vmoveto) inside is = (refl, refl)
move_or_close (Command Closepath) inside is = (refl, refl)
move_or_close (Command _) inside is = let no : false ≡ true = is in cc
move_or_close _ inside is = let no : false ≡ true = is in cc

-- ---- up to the first step that draws

-- Nothing is drawn yet, and the pen is at the point, or in a flex that began there.
record IsStill (p : Point) (steps : List StepView) : Type 0 where
  outer : outer_point steps ≡ p
  point : in_flex steps ≡ false → current_point steps ≡ p
  begun : is_begun steps ≡ false

no_move : (move inside : Bool) → inside ≡ false → (move && not inside) ≡ false → move ≡ false
no_move false inside i is = refl
no_move true false i is = is
no_move true true i is = i

-- A flex goes on where no step ends it.
still_in_flex : (start inside end : Bool) → inside ≡ true → (end && inside) ≡ false → (start || (inside && not end)) ≡ false → ⊥
still_in_flex start true true i unended out = let no : true ≡ false = unended in cc
still_in_flex true true false i unended out = let no : true ≡ false = out in cc
still_in_flex false true false i unended out = let no : true ≡ false = out in cc
still_in_flex start false end i unended out = let no : false ≡ true = i in cc

point_stays : (p : Point) (steps : List StepView) (t : StepView) (inside : Bool) → in_flex steps ≡ inside → IsStill p steps
    → stirs steps t ≡ false → in_flex (steps ++ t ∷ []) ≡ false → current_point (steps ++ t ∷ []) ≡ p
point_stays p steps t true is old none out =
    let unended = (neither (is_line t.token) _ (neither (drawing steps t) _ none).0).1 in
    absurd (still_in_flex (is_flex_start t) (in_flex steps) (is_flex_end t) is unended (sym (since_goes_on flex_start flex_end steps t) ∙ out))
point_stays p steps t false is old none out =
    let all = neither (drawing steps t) _ none in
    let line = (neither (is_line t.token) _ all.0).0 in
    let last = neither (ends_path steps t) (sets_point t.token) all.1 in
    let move = no_move (is_move t.token) (in_flex steps) is (neither (is_move t.token && not (in_flex steps)) _ last.0).0 in
    point_goes_on steps t ∙ rw (last.1, no_displacement t.token t.stack move line) (plus_origin (current_point steps) ∙ old.point is)

in_or_out : (inside : Bool) (outer point p : Point) → outer ≡ p → (inside ≡ false → point ≡ p) → (if inside then outer else point) ≡ p
in_or_out true outer point p is otherwise = is
in_or_out false outer point p is otherwise = otherwise refl

still_on : (p : Point) (steps : List StepView) (t : StepView) → IsStill p steps → stirs steps t ≡ false → IsStill p (steps ++ t ∷ [])
still_on p steps t old none =
    let point = point_stays p steps t (in_flex steps) refl old none in
    record {
      outer = carried_on outer_point_on origin steps t
          ∙ in_or_out (in_flex (steps ++ t ∷ [])) (outer_point steps) (current_point (steps ++ t ∷ [])) p old.outer point;
      point = point;
      begun = since_goes_on drawing ends_path steps t ∙ rw ((neither (drawing steps t) _ none).0, old.begun) refl;
    }

-- A move or a closepath outside flex draws nothing.
unbegun : (line end inside begun ends : Bool) → line ≡ false → inside ≡ false → ends ≡ true
    → ((line || (end && inside)) || (begun && not ends)) ≡ false
unbegun false true false true true l i e = refl
unbegun false true false false true l i e = refl
unbegun false false false true true l i e = refl
unbegun false false false false true l i e = refl
unbegun true end inside begun ends l i e = let no : true ≡ false = l in cc
unbegun line end true begun ends l i e = let no : true ≡ false = i in cc
unbegun line end inside begun false l i e = let no : false ≡ true = e in cc

still_after : (before : List StepView) (ended : StepView) → in_flex before ≡ false → ends_path before ended ≡ true
    → IsStill (current_point (before ++ ended ∷ [])) (before ++ ended ∷ [])
still_after before ended outside ends =
    let plain = move_or_close ended.token (in_flex before) ends in
    let no_start : is_flex_start ended ≡ false = rw plain.0 refl in
    let out : in_flex (before ++ ended ∷ []) ≡ false = since_goes_on flex_start flex_end before ended ∙ rw (no_start, outside) refl in
    record {
      outer = carried_on outer_point_on origin before ended ∙ rw out refl;
      point = λ same. refl;
      begun = since_goes_on drawing ends_path before ended
          ∙ unbegun (is_line ended.token) (is_flex_end ended) (in_flex before) (is_begun before) (ends_path before ended) plain.1 outside ends;
    }

-- ---- from the first step that draws on

record IsOn (p : Point) (steps : List StepView) : Type 0 where
  start : path_start steps ≡ p
  begun : is_begun steps ≡ true

set_first : (draws begun : Bool) (outer start p : Point) → draws ≡ true → begun ≡ false → outer ≡ p
    → (if draws && not begun then outer else start) ≡ p
set_first true false outer start p d b is = is
set_first false begun outer start p d b is = let no : false ≡ true = d in cc
set_first true true outer start p d b is = let no : true ≡ false = b in cc

set_before : (draws begun : Bool) (outer start p : Point) → begun ≡ true → start ≡ p → (if draws && not begun then outer else start) ≡ p
set_before true true outer start p b is = is
set_before false true outer start p b is = is
set_before draws false outer start p b is = let no : false ≡ true = b in cc

first_begins : (draws begun ends : Bool) → draws ≡ true → (draws || (begun && not ends)) ≡ true
first_begins true begun ends is = refl
first_begins false begun ends is = let no : false ≡ true = is in cc

stays_begun : (draws begun ends : Bool) → begun ≡ true → ends ≡ false → (draws || (begun && not ends)) ≡ true
stays_begun true true false b e = refl
stays_begun false true false b e = refl
stays_begun draws false ends b e = let no : false ≡ true = b in cc
stays_begun draws begun true b e = let no : true ≡ false = e in cc

first_on : (p : Point) (steps : List StepView) (t : StepView) → IsStill p steps → drawing steps t ≡ true → IsOn p (steps ++ t ∷ [])
first_on p steps t old draws = record {
  start = carried_on start_on origin steps t
      ∙ set_first (drawing steps t) (is_begun steps) (outer_point steps) (path_start steps) p draws old.begun old.outer;
  begun = since_goes_on drawing ends_path steps t ∙ first_begins (drawing steps t) (is_begun steps) (ends_path steps t) draws;
}

more_on : (p : Point) (steps : List StepView) (t : StepView) → IsOn p steps → ends_path steps t ≡ false → IsOn p (steps ++ t ∷ [])
more_on p steps t old unended = record {
  start = carried_on start_on origin steps t
      ∙ set_before (drawing steps t) (is_begun steps) (outer_point steps) (path_start steps) p old.begun old.start;
  begun = since_goes_on drawing ends_path steps t ∙ stays_begun (drawing steps t) (is_begun steps) (ends_path steps t) old.begun unended;
}

pub paths_begin : PathsBeginWhereThePenWasLeft
paths_begin before ended between first more path =
    let p = current_point (before ++ ended ∷ []) in
    let still = kept_over stirs (IsStill p) (still_on p) (before ++ ended ∷ []) between path.still (still_after before ended path.outside path.ends) in
    let on = first_on p ((before ++ ended ∷ []) ++ between) first still path.draws in
    (kept_over ends_path (IsOn p) (more_on p) (((before ++ ended ∷ []) ++ between) ++ first ∷ []) more path.goes_on on).start

-- ---- where a path was left

pub paths_end : PathsEndWhereThePenWasLeft
paths_end before drawn between draws none =
    kept_over drawing (λ steps. path_end steps ≡ current_point (before ++ drawn ∷ [])) stays (before ++ drawn ∷ []) between none
    (carried_on end_on origin before drawn ∙ rw draws refl)
  where
    stays : (steps : List StepView) (t : StepView) → path_end steps ≡ current_point (before ++ drawn ∷ []) → drawing steps t ≡ false
        → path_end (steps ++ t ∷ []) ≡ current_point (before ++ drawn ∷ [])
    stays steps t left none = carried_on end_on origin steps t ∙ rw none left
