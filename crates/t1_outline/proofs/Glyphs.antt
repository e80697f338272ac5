-- Without P02 each subpath of a glyph is closed, and without P01 each begins at a move.
use Rattle.std.proofs.Common.{◌≡◌, ℕ, ◌+◌, ◌&&◌, ◌||◌, ◌==◌, not, if◌then◌else◌, Bool, true, false, None, List, [], ◌∷◌, ◌++◌, length, map, take, append_assoc, append-nil, refl, sym, ap, subst, ◌∙◌, ℤ}
use Rattle.std.specs.List.{list_any}
use Rattle.std.proofs.lemmas.List.{take_all}
use Rattle.t1_char.specs.declared.command.Command.TheVariants.{Endchar, Seac, Vlineto, Rlineto, Hlineto, Rrcurveto, Vhcurveto, Hvcurveto}
use Rattle.t1_char.specs.declared.edition.Edition.{Edition}
use Rattle.t1_char.specs.declared.token.CharToken.{CharToken}
use Rattle.t1_char.specs.declared.token.CharToken.TheVariants.{Command, End}
use Rattle.t1_char.specs.Arguments.{is_callothersubr, is_flex_end}
use Rattle.t1_char.specs.Editions.{limit_of}
use Rattle.t1_char.specs.Effects.{is_finishing}
use Rattle.t1_char.specs.Steps.{StepView, is_end, steps_of}
use Rattle.t1_char.specs.Laws.Steps.{finishes_at}
use Rattle.t1_char.proofs.Finishing.{glyphs_are_finished}
use Rattle.t1_outline.specs.declared.segment.Segment.{Segment}
use Rattle.t1_outline.specs.declared.segment.Segment.TheVariants.{Move}
use Rattle.t1_outline.specs.Laws.Glyphs.{BeginAtMoves, GlyphsAreClosed, GlyphsBeginAtMoves, IsOuterMove, NoneViolates, each_is_closed}
use Rattle.t1_outline.specs.Laws.Paths.{is_left_open, is_opening, open_behind}
use Rattle.t1_outline.specs.Outlines.{DrawnView, draws_flex, drawn, drawn_by, drawn_from, drawn_of, flex_curves, flex_places, has_subpath, placed, stroke, stroke_at}
use Rattle.t1_outline.proofs.Closed.{call_of, drawn_subpaths_are_closed, left_is_open, left_open, open_on, or_first, or_true}
use Rattle.t1_outline.proofs.Subpaths.{curves_open_none, no_stroke, strokes_open_none, subpaths_begin_at_moves}
use Rattle.t1_rules.specs.declared.rule.Rule.TheVariants.{P01, P02}
use Rattle.t1_rules.specs.declared.step_rules.flex.Point.{Point}
use Rattle.t1_rules.specs.Laws.StepRules.{violates}
use Rattle.t1_rules.specs.StepRules.Flex.{current_point}
use Rattle.t1_rules.specs.StepRules.Paths.{outer_move, wants_closed}
use Rattle.t1_rules.specs.StepRules.Tokens.{closes, is_line, is_move}
use Rattle.t1_rules.proofs.Lemmas.OthersubrCalls.{and_both}

-- ---- P02: what a step draws begins no subpath where one is open

abbrev moves_fine : Bool → List Segment → Bool
moves_fine is [] = true
moves_fine is (s ∷ ss) = not (is_opening s && is) && moves_fine (open_behind is s) ss

closed_on : (is : Bool) (number : ℕ) (path : List ℕ) (ss : List Segment) (more : List DrawnView) → moves_fine is ss ≡ true
    → each_is_closed is (map (placed number path) ss ++ more) ≡ each_is_closed (left_open is ss) more
closed_on is number path [] more fine = refl
closed_on is number path (s ∷ ss) more fine =
    let both = and_both (not (is_opening s && is)) (moves_fine (open_behind is s) ss) fine in
    rw (both.0) (closed_on (open_behind is s) number path ss more both.1)

none_opens : (is : Bool) (ss : List Segment) → list_any is_opening ss ≡ false → moves_fine is ss ≡ true
none_opens is [] none = refl
none_opens is (s ∷ ss) none = by_first (is_opening s) refl none (λ rest. none_opens (open_behind is s) ss rest)
  where
    by_first : (b : Bool) → is_opening s ≡ b → (b || list_any is_opening ss) ≡ false
        → (list_any is_opening ss ≡ false → moves_fine (open_behind is s) ss ≡ true) → (not (is_opening s && is) && moves_fine (open_behind is s) ss) ≡ true
    by_first false e rest others = rw e (others rest)
    by_first true e rest others = let isnt : true ≡ false = rest in cc

strokes_begin : (start : Point) (v : List ℤ) (closing : Bool) (token : CharToken)
    → moves_fine false (drawn_by false start closing (stroke_at start v token)) ≡ true
strokes_begin start v closing token = by_token token
  where
    by_close : (b : Bool) → moves_fine false (drawn_by false start b None) ≡ true
    by_close true = refl
    by_close false = refl

    by_token : (t : CharToken) → moves_fine false (drawn_by false start closing (stroke_at start v t)) ≡ true
    by_token (Command Rlineto) = refl
    by_token (Command Hlineto) = refl
    by_token (Command Vlineto) = refl
    by_token (Command Rrcurveto) = refl
    by_token (Command Vhcurveto) = refl
    by_token (Command Hvcurveto) = refl
    by_token (Command _) = by_close closing
    by_token _ = by_close closing

curves_begin : (places : List Point) → moves_fine false (flex_curves false places) ≡ true
curves_begin (start ∷ reference ∷ a ∷ b ∷ c ∷ d ∷ e ∷ f ∷ []) = refl
curves_begin _ = refl

strokes_fine : (left there : Bool) → (left ≡ true → there ≡ true) → (start : Point) (v : List ℤ) (closing : Bool) (token : CharToken)
    → moves_fine left (drawn_by there start closing (stroke_at start v token)) ≡ true
strokes_fine left true old start v closing token =
    none_opens left (drawn_by true start closing (stroke_at start v token)) (strokes_open_none start v closing token)
strokes_fine false false old start v closing token = strokes_begin start v closing token
strokes_fine true false old start v closing token = let isnt : false ≡ true = old refl in cc

curves_fine : (left there : Bool) → (left ≡ true → there ≡ true) → (places : List Point) → moves_fine left (flex_curves there places) ≡ true
curves_fine left true old places = none_opens left (flex_curves true places) (curves_open_none places)
curves_fine false false old places = curves_begin places
curves_fine true false old places = let isnt : false ≡ true = old refl in cc

step_fine : (edition : Edition) (before : List StepView) (t : StepView) → violates edition P02 before t ≡ false
    → moves_fine (is_left_open false (drawn_of before)) (drawn before t) ≡ true
step_fine edition before t fine = go (outer_move before t) refl (draws_flex before t)
  where
    left : Bool
    left = is_left_open false (drawn_of before)

    move_fine : (is : Bool) (p : Point) → is ≡ false → moves_fine is (Move p ∷ []) ≡ true
    move_fine is p e = rw e refl

    go : (move : Bool) → outer_move before t ≡ move → (flex : Bool) → moves_fine left (if move then Move (current_point (before ++ t ∷ [])) ∷ []
        else (if flex then flex_curves (has_subpath before) (flex_places before)
        else drawn_by (has_subpath before) (current_point before) (closes t.token) (stroke (current_point before) t))) ≡ true
    go true m flex =
        let wanted : wants_closed before t ≡ true = rw m refl in
        move_fine left (current_point (before ++ t ∷ [])) (drawn_subpaths_are_closed edition before t fine wanted)
    go false m true = curves_fine left (has_subpath before) (λ is. (left_is_open before is).0) (flex_places before)
    go false m false = strokes_fine left (has_subpath before) (λ is. (left_is_open before is).0) (current_point before) t.stack (closes t.token) t.token

closed_from : (edition : Edition) (before steps : List StepView)
    → ((front rest : List StepView) (t : StepView) → steps ≡ front ++ t ∷ rest → violates edition P02 (before ++ front) t ≡ false)
    → is_left_open false (drawn_of (before ++ steps)) ≡ false → each_is_closed (is_left_open false (drawn_of before)) (drawn_from before steps) ≡ true
closed_from edition before [] fine end = ap not (ap (λ s. is_left_open false (drawn_of s)) (sym (append-nil before)) ∙ end)
closed_from edition before (t ∷ ts) fine end =
    let own : violates edition P02 before t ≡ false = subst (λ b. violates edition P02 b t ≡ false) (append-nil before) (fine [] ts t refl) in
    closed_on (is_left_open false (drawn_of before)) (length before + 1) t.path (drawn before t) (drawn_from (before ++ t ∷ []) ts)
    (step_fine edition before t own)
    ∙ ap (λ left. each_is_closed left (drawn_from (before ++ t ∷ []) ts)) (sym (open_on before t))
    ∙ closed_from edition (before ++ t ∷ []) ts
    (λ front rest u e. subst (λ b. violates edition P02 b u ≡ false) (sym (append_assoc before (t ∷ []) front)) (fine (t ∷ front) rest u (ap (λ l. t ∷ l) e)))
    (subst (λ s. is_left_open false (drawn_of s) ≡ false) (sym (append_assoc before (t ∷ []) ts)) end)

-- ---- the last step of a glyph requires all to be closed, and draws nothing

ends_or : (a b : Bool) → (a || b) ≡ true → (a || (b && true)) ≡ true
ends_or true b is = refl
ends_or false true is = refl
ends_or false false is = let isnt : false ≡ true = is in cc

ending : (token : CharToken) (path : List ℕ) → finishes_at token path ≡ true → (is_finishing token || (is_end token && (length path == 0))) ≡ true
ending token [] is = ends_or (is_finishing token) (is_end token) is
ending token (number ∷ path) is = or_first (is_finishing token) _ is

last_wants : (before : List StepView) (t : StepView) → finishes_at t.token t.path ≡ true → wants_closed before t ≡ true
last_wants before t is = rw (ending t.token t.path is) (or_true (outer_move before t))

-- It is no move, line, closepath or call of an OtherSubr.
pub record DrawsNone (token : CharToken) : Type 0 where
  pub move : is_move token ≡ false
  pub line : is_line token ≡ false
  pub close : closes token ≡ false
  pub call : is_callothersubr token ≡ false

ends_draw_none : (token : CharToken) (path : List ℕ) → finishes_at token path ≡ true → DrawsNone token
ends_draw_none (Command Endchar) path is = record { move = refl; line = refl; close = refl; call = refl }
ends_draw_none (Command Seac) path is = record { move = refl; line = refl; close = refl; call = refl }
ends_draw_none (Command _) [] is = let isnt : false ≡ true = is in cc
ends_draw_none (Command _) (_ ∷ _) is = let isnt : false ≡ true = is in cc
ends_draw_none End path is = record { move = refl; line = refl; close = refl; call = refl }
ends_draw_none _ [] is = let isnt : false ≡ true = is in cc
ends_draw_none _ (_ ∷ _) is = let isnt : false ≡ true = is in cc

last_draws_none : (before : List StepView) (t : StepView) → DrawsNone t.token → drawn before t ≡ []
last_draws_none before t is = rw (is.move, no_flex (is_flex_end t) refl, no_stroke (current_point before) t.stack t.token is.line, is.close) refl
  where
    no_flex : (b : Bool) → is_flex_end t ≡ b → is_flex_end t ≡ false
    no_flex false e = e
    no_flex true e = let isnt : true ≡ false = sym (call_of 0 3 t e) ∙ is.call in cc

pub glyphs_are_closed : GlyphsAreClosed
glyphs_are_closed edition font glyph within fine =
    let steps = steps_of font glyph in
    let ended = glyphs_are_finished font glyph in
    let front_closed : is_left_open false (drawn_of ended.front) ≡ false =
    drawn_subpaths_are_closed edition ended.front ended.end (fine ended.front [] ended.end ended.is) (last_wants ended.front ended.end ended.finishes) in
    let none : drawn ended.front ended.end ≡ [] = last_draws_none ended.front ended.end (ends_draw_none ended.end.token ended.end.path ended.finishes) in
    let all_closed : is_left_open false (drawn_of steps) ≡ false =
    ap (λ s. is_left_open false (drawn_of s)) ended.is ∙ open_on ended.front ended.end
    ∙ ap (left_open (is_left_open false (drawn_of ended.front))) none ∙ front_closed in
    ap (λ s. each_is_closed false (drawn_of s)) (take_all (limit_of edition) steps within)
    ∙ closed_from edition [] steps fine all_closed

-- ---- P01

begin_both : (steps : List StepView) (ds more : List DrawnView) → BeginAtMoves steps ds → BeginAtMoves steps more → BeginAtMoves steps (ds ++ more)
begin_both steps [] more one other = other
begin_both steps (d ∷ ds) more one other = (one.0, begin_both steps ds more one.1 other)

opening_begins : (steps : List StepView) (number : ℕ) (path : List ℕ) (ss : List Segment) → IsOuterMove steps number
    → BeginAtMoves steps (map (placed number path) ss)
opening_begins steps number path [] is = tt
opening_begins steps number path (s ∷ ss) is = (λ _. is, opening_begins steps number path ss is)

others_begin_none : (steps : List StepView) (number : ℕ) (path : List ℕ) (ss : List Segment) → list_any is_opening ss ≡ false
    → BeginAtMoves steps (map (placed number path) ss)
others_begin_none steps number path [] none = tt
others_begin_none steps number path (s ∷ ss) none = by_first (is_opening s) refl none (λ rest. others_begin_none steps number path ss rest)
  where
    by_first : (b : Bool) → is_opening s ≡ b → (b || list_any is_opening ss) ≡ false
        → (list_any is_opening ss ≡ false → BeginAtMoves steps (map (placed number path) ss))
        → (is_opening s ≡ true → IsOuterMove steps number) × BeginAtMoves steps (map (placed number path) ss)
    by_first false e rest others = (λ is. let isnt : false ≡ true = sym e ∙ is in cc, others rest)
    by_first true e rest others = let isnt : true ≡ false = rest in cc

begin_from : (edition : Edition) (all before steps : List StepView) → all ≡ before ++ steps → NoneViolates edition P01 all
    → BeginAtMoves all (drawn_from before steps)
begin_from edition all before [] are fine = tt
begin_from edition all before (t ∷ ts) are fine =
    begin_both all (map (placed (length before + 1) t.path) (drawn before t)) (drawn_from (before ++ t ∷ []) ts) (own (outer_move before t) refl)
    (begin_from edition all (before ++ t ∷ []) ts (are ∙ sym (append_assoc before (t ∷ []) ts)) fine)
  where
    own : (move : Bool) → outer_move before t ≡ move → BeginAtMoves all (map (placed (length before + 1) t.path) (drawn before t))
    own true m =
        opening_begins all (length before + 1) t.path (drawn before t)
        (record { front = before; step = t; rest = ts; are = are; number_is = refl; moves = m })
    own false m =
        others_begin_none all (length before + 1) t.path (drawn before t) (subpaths_begin_at_moves edition before t (fine before ts t are) m)

pub glyphs_begin_at_moves : GlyphsBeginAtMoves
glyphs_begin_at_moves edition font glyph fine =
    begin_from edition (take (limit_of edition) (steps_of font glyph)) [] (take (limit_of edition) (steps_of font glyph)) refl fine
