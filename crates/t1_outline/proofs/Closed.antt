-- What was drawn and not closed is open in the rules' word, so where P02 isn't broken nothing is.
use Rattle.std.proofs.Common.{◌≡◌, ℕ, ◌+◌, ◌&&◌, ◌||◌, not, if◌then◌else◌, Bool, true, false, List, [], ◌∷◌, ◌++◌, length, map, append_assoc, append-nil, refl, sym, ap, subst, ◌∙◌}
use Rattle.t1_char.specs.declared.command.Command.TheVariants.{Closepath}
use Rattle.t1_char.specs.declared.token.CharToken.{CharToken}
use Rattle.t1_char.specs.declared.token.CharToken.TheVariants.{Command}
use Rattle.t1_char.specs.Arguments.{calls_othersubr, is_callothersubr, is_flex_end, is_whole}
use Rattle.t1_char.specs.Stacks.{from_top}
use Rattle.t1_char.specs.Steps.{StepView}
use Rattle.t1_char.proofs.LookingBack.{since_goes_on}
use Rattle.t1_outline.specs.declared.segment.Segment.{Segment}
use Rattle.t1_outline.specs.declared.segment.Segment.TheVariants.{Move, Close}
use Rattle.t1_outline.specs.Laws.Paths.{DrawnSubpathsAreClosed, is_left_open, open_behind}
use Rattle.t1_outline.specs.Outlines.{DrawnView, draws_flex, drawn, drawn_of, has_subpath, makes_subpath, placed}
use Rattle.t1_outline.proofs.Flexes.{is_whole_flex}
use Rattle.t1_outline.proofs.Fronts.{drawn_more}
use Rattle.t1_outline.proofs.Subpaths.{no_stroke, p02_row}
use Rattle.t1_rules.specs.StepRules.Flex.{current_point}
use Rattle.t1_rules.specs.StepRules.Paths.{closing_step, drawing, in_flex, is_open, outer_move, wants_closed}
use Rattle.t1_rules.specs.StepRules.Tokens.{closes, is_line, is_move}
use Rattle.t1_rules.proofs.Lemmas.OthersubrCalls.{and_both}

-- The same of segments alone.
abbrev pub left_open : Bool → List Segment → Bool
left_open is [] = is
left_open is (s ∷ ss) = left_open (open_behind is s) ss

behind_more : (is : Bool) (ds more : List DrawnView) → is_left_open is (ds ++ more) ≡ is_left_open (is_left_open is ds) more
behind_more is [] more = refl
behind_more is (d ∷ ds) more = behind_more (open_behind is d.segment) ds more

of_segments : (is : Bool) (number : ℕ) (path : List ℕ) (ss : List Segment) → is_left_open is (map (placed number path) ss) ≡ left_open is ss
of_segments is number path [] = refl
of_segments is number path (s ∷ ss) = of_segments (open_behind is s) number path ss

pub open_on : (before : List StepView) (t : StepView) → is_left_open false (drawn_of (before ++ t ∷ [])) ≡ left_open (is_left_open false (drawn_of before)) (drawn before t)
open_on before t =
    ap (is_left_open false) (drawn_more before t)
    ∙ behind_more false (drawn_of before) (map (placed (length before + 1) t.path) (drawn before t))
    ∙ of_segments (is_left_open false (drawn_of before)) (length before + 1) t.path (drawn before t)

-- What is left open has a subpath, and is open.
abbrev pub IsOpenBoth : Bool → Bool → Bool → Type 0
IsOpenBoth left there open_there = left ≡ true → (there ≡ true) × (open_there ≡ true)

closed : (left there is : Bool) (segments : List Segment) → segments ≡ (if true && there then Close ∷ [] else []) → IsOpenBoth left there is
    → left_open left segments ≡ false
closed left true is segments e old = ap (left_open left) e
closed true false is segments e old = let no : false ≡ true = (old refl).0 in cc
closed false false is segments e old = ap (left_open false) e

pub or_true : (a : Bool) → (a || true) ≡ true
or_true true = refl
or_true false = refl

pub or_first : (a b : Bool) → a ≡ true → (a || b) ≡ true
or_first true b is = refl
or_first false b is = let no : false ≡ true = is in cc

-- What it was stays, where the step neither draws nor closes.
kept : (a b : Bool) → b ≡ true → (a || (b && true)) ≡ true
kept a true is = or_true a
kept a false is = let no : false ≡ true = is in cc

-- One step further: a move draws a move; a line, a curve and a flex that is drawn are drawing; a closepath closes.
on_step : (move flex line close draws left there is : Bool) (segments : List Segment)
    → (close ≡ true → move ≡ false) → (close ≡ true → flex ≡ false) → (close ≡ true → line ≡ false)
    → (flex ≡ true → draws ≡ true) → (line ≡ true → draws ≡ true)
    → (move ≡ true → left_open left segments ≡ left)
    → (move ≡ false → flex ≡ false → line ≡ false → segments ≡ (if close && there then Close ∷ [] else []))
    → IsOpenBoth left there is
    → IsOpenBoth (left_open left segments) ((move || (line || flex)) || (there && not close)) (draws || (is && not close))
on_step move flex line true draws left there is segments no_move no_flex no_line flex_draws line_draws of_move of_rest old = λ left_now.
    let no : false ≡ true = sym (closed left there is segments (of_rest (no_move refl) (no_flex refl) (no_line refl)) old) ∙ left_now in cc
on_step move true line false draws left there is segments no_move no_flex no_line flex_draws line_draws of_move of_rest old = λ left_now.
    (or_first (move || (line || true)) _ (ap (λ b. move || b) (or_true line) ∙ or_true move), or_first draws _ (flex_draws refl))
on_step move false true false draws left there is segments no_move no_flex no_line flex_draws line_draws of_move of_rest old = λ left_now.
    (or_first (move || true) _ (or_true move), or_first draws _ (line_draws refl))
on_step true false false false draws left there is segments no_move no_flex no_line flex_draws line_draws of_move of_rest old = λ left_now.
    let both = old (sym (of_move refl) ∙ left_now) in
    (refl, kept draws is both.1)
on_step false false false false draws left there is segments no_move no_flex no_line flex_draws line_draws of_move of_rest old = λ left_now.
    let both = old (sym (ap (left_open left) (of_rest refl refl refl)) ∙ left_now) in
    (kept false there both.0, kept draws is both.1)

abbrev pub IsLeftOpen : List StepView → Type 0
IsLeftOpen before = IsOpenBoth (is_left_open false (drawn_of before)) (has_subpath before) (is_open before)

close_no_move : (token : CharToken) → closes token ≡ true → is_move token ≡ false
close_no_move (Command Closepath) is = refl
close_no_move (Command _) is = let no : false ≡ true = is in cc
close_no_move _ is = let no : false ≡ true = is in cc

close_no_line : (token : CharToken) → closes token ≡ true → is_line token ≡ false
close_no_line (Command Closepath) is = refl
close_no_line (Command _) is = let no : false ≡ true = is in cc
close_no_line _ is = let no : false ≡ true = is in cc

call_no_close : (token : CharToken) → is_callothersubr token ≡ true → closes token ≡ false
call_no_close (Command Closepath) is = let no : false ≡ true = is in cc
call_no_close (Command _) is = refl
call_no_close _ is = refl

pub call_of : (number count : ℕ) (t : StepView) → calls_othersubr number count t ≡ true → is_callothersubr t.token ≡ true
call_of number count t e =
    (and_both (is_callothersubr t.token) _ (and_both _ (is_whole number (from_top t.stack 0)) (and_both _ (is_whole count (from_top t.stack 1)) e).0).0).0

close_no_flex : (before : List StepView) (t : StepView) (flex : Bool) → draws_flex before t ≡ flex → closes t.token ≡ true → flex ≡ false
close_no_flex before t false f is = refl
close_no_flex before t true f is =
    let no : true ≡ false = sym is ∙ call_no_close t.token (call_of 0 3 t (is_whole_flex before t f).ends) in cc

left_open_on : (before : List StepView) (t : StepView) → IsLeftOpen before → IsLeftOpen (before ++ t ∷ [])
left_open_on before t old =
    rw (open_on before t, since_goes_on makes_subpath closing_step before t, since_goes_on drawing closing_step before t)
    (on_step (outer_move before t) (draws_flex before t) (is_line t.token) (closes t.token) (drawing before t) (is_left_open false (drawn_of before))
    (has_subpath before) (is_open before) (drawn before t)
    (λ is. ap (λ m. m && not (in_flex before)) (close_no_move t.token is)) (close_no_flex before t _ refl) (close_no_line t.token)
    (λ f. let whole = is_whole_flex before t f in rw (whole.ends, whole.inside) (or_true (is_line t.token)))
    (or_first (is_line t.token) (is_flex_end t && in_flex before))
    (λ m.
    let is : drawn before t ≡ Move (current_point (before ++ t ∷ [])) ∷ [] = rw m refl in
    ap (left_open (is_left_open false (drawn_of before))) is)
    (λ m f l. rw (m, f, no_stroke (current_point before) t.stack t.token l) refl)
    old)

left_open_from : (front steps : List StepView) → IsLeftOpen front → IsLeftOpen (front ++ steps)
left_open_from front [] old = subst IsLeftOpen (sym (append-nil front)) old
left_open_from front (s ∷ ss) old = subst IsLeftOpen (append_assoc front (s ∷ []) ss) (left_open_from (front ++ s ∷ []) ss (left_open_on front s old))

pub left_is_open : (before : List StepView) → IsLeftOpen before
left_is_open before = left_open_from [] before (λ left_now. let no : false ≡ true = left_now in cc)

pub drawn_subpaths_are_closed : DrawnSubpathsAreClosed
drawn_subpaths_are_closed edition before t fine wanted = go (is_left_open false (drawn_of before)) refl
  where
    go : (left : Bool) → is_left_open false (drawn_of before) ≡ left → left ≡ false
    go false e = refl
    go true e =
        let broken : (wants_closed before t && is_open before) ≡ true = rw (wanted, (left_is_open before e).1) refl in
        let no : true ≡ false = sym broken ∙ sym (p02_row edition before t) ∙ fine in cc
