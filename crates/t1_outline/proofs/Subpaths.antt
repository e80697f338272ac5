-- Subpaths begin at moves and are closed, where the rules on paths aren't broken.
use Rattle.std.proofs.Common.{◌≡◌, ℕ, ◌&&◌, ◌||◌, not, if◌then◌else◌, Bool, true, false, None, List, [], ◌∷◌, ◌++◌, ℤ, refl, sym, ap, ◌∙◌}
use Rattle.std.specs.List.{list_any}
use Rattle.t1_char.specs.declared.command.Command.TheVariants.{Vlineto, Rlineto, Hlineto, Rrcurveto, Vhcurveto, Hvcurveto}
use Rattle.t1_char.specs.declared.edition.Edition.{Edition}
use Rattle.t1_char.specs.declared.token.CharToken.{CharToken}
use Rattle.t1_char.specs.declared.token.CharToken.TheVariants.{Command}
use Rattle.t1_char.specs.Arguments.{is_flex_end}
use Rattle.t1_char.specs.Since.{Test, any_from, since_from}
use Rattle.t1_char.specs.Steps.{StepView}
use Rattle.t1_outline.specs.Laws.Paths.{RulesAskIsOpen, SubpathsBeginAtMoves, is_opening}
use Rattle.t1_outline.specs.Outlines.{draws_flex, drawn_by, flex_curves, flex_places, has_subpath, is_spoiled, makes_subpath, stroke, stroke_at}
use Rattle.t1_rules.specs.declared.mask.Mask.{Mask}
use Rattle.t1_rules.specs.declared.rule.Rule.TheVariants.{P02}
use Rattle.t1_rules.specs.declared.step_rules.flex.Point.{Point}
use Rattle.t1_rules.specs.Book.{number_of}
use Rattle.t1_rules.specs.Mask.{has}
use Rattle.t1_rules.specs.StepRules.{argument_rules, call_rules, path_rules, stem_rules, flex_rules, othersubr_rules, seac_rules, step_rules, breaks, triple_rules, counter_rules}
use Rattle.t1_rules.specs.StepRules.Flex.{current_point}
use Rattle.t1_rules.specs.StepRules.Paths.{closes_nothing, closing_step, drawing, draws_unmoved, in_flex, is_moved, leaves_open, outer_move}
use Rattle.t1_rules.specs.StepRules.Tokens.{closes, is_line}
use Rattle.t1_rules.proofs.Lemmas.OthersubrCalls.{and_both}
use Rattle.t1_rules.proofs.Lemmas.StepRules.{row_decides}

-- The rows of the rules on paths.
p01_row : (edition : Edition) (before : List StepView) (t : StepView) → breaks (step_rules edition) 43 before t ≡ draws_unmoved before t
unfolding step_rules argument_rules call_rules path_rules stem_rules flex_rules othersubr_rules seac_rules triple_rules counter_rules
p01_row edition before t = row_decides 43 (step_rules edition) 17 _ refl refl refl refl before t

pub p02_row : (edition : Edition) (before : List StepView) (t : StepView) → breaks (step_rules edition) 44 before t ≡ leaves_open before t
unfolding step_rules argument_rules call_rules path_rules stem_rules flex_rules othersubr_rules seac_rules triple_rules counter_rules
p02_row edition before t = row_decides 44 (step_rules edition) 18 _ refl refl refl refl before t

p03_row : (edition : Edition) (before : List StepView) (t : StepView) → breaks (step_rules edition) 45 before t ≡ closes_nothing before t
unfolding step_rules argument_rules call_rules path_rules stem_rules flex_rules othersubr_rules seac_rules triple_rules counter_rules
p03_row edition before t = row_decides 45 (step_rules edition) 19 _ refl refl refl refl before t

-- A watcher of paths reports P02 just where a step leaves something open.
p02_watched : (before : List StepView) (t : StepView) → breaks path_rules 44 before t ≡ leaves_open before t
unfolding path_rules
p02_watched before t = row_decides 44 path_rules 3 _ refl refl refl refl before t

pub left_open : (broken : Mask) (before : List StepView) (t : StepView) → ((n : ℕ) → has broken n ≡ breaks path_rules n before t)
    → has broken (number_of P02) ≡ leaves_open before t
left_open broken before t answer = answer 44 ∙ p02_watched before t

pub rules_ask_is_open : RulesAskIsOpen
rules_ask_is_open edition before t = record { p02 = p02_row edition before t; p03 = p03_row edition before t }

-- What there was since the last c of one kind, there was of a wider one.
wider : (x y any rest more : Bool) → (x ≡ true → y ≡ true) → (rest ≡ true → more ≡ true) → ((x && not any) || rest) ≡ true → ((y && not any) || more) ≡ true
wider true y false rest more up on is = rw (up refl) refl
wider true false true rest more up on is = on is
wider true true true rest more up on is = on is
wider false y any true more up on is = rw (on refl) (ends (y && not any))
  where
    ends : (b : Bool) → (b || true) ≡ true
    ends true = refl
    ends false = refl
wider false y any false more up on is = let no : false ≡ true = is in cc

since_wider : (a b c : Test) → ((before : List StepView) (t : StepView) → a before t ≡ true → b before t ≡ true)
    → (front ss : List StepView) → since_from a c front ss ≡ true → since_from b c front ss ≡ true
since_wider a b c up front [] is = is
since_wider a b c up front (s ∷ ss) is =
    wider (a front s) (b front s) (any_from c (front ++ s ∷ []) ss) _ _ (up front s) (since_wider a b c up (front ++ s ∷ []) ss) is

or_left : (a b : Bool) → a ≡ true → (a || b) ≡ true
or_left true b is = refl
or_left false b is = let no : false ≡ true = is in cc

pub moved_is_subpath : (before : List StepView) → is_moved before ≡ true → has_subpath before ≡ true
moved_is_subpath before is =
    since_wider outer_move makes_subpath closing_step (λ b t moves. or_left (outer_move b t) (is_line t.token || draws_flex b t) moves) [] before is

-- What is no line or curve has no stroke.
pub no_stroke : (start : Point) (v : List ℤ) (token : CharToken) → is_line token ≡ false → stroke_at start v token ≡ None
no_stroke start v (Command Rlineto) none = let no : true ≡ false = none in cc
no_stroke start v (Command Hlineto) none = let no : true ≡ false = none in cc
no_stroke start v (Command Vlineto) none = let no : true ≡ false = none in cc
no_stroke start v (Command Rrcurveto) none = let no : true ≡ false = none in cc
no_stroke start v (Command Vhcurveto) none = let no : true ≡ false = none in cc
no_stroke start v (Command Hvcurveto) none = let no : true ≡ false = none in cc
no_stroke start v (Command _) none = refl
no_stroke start v _ none = refl

-- Where there is a subpath, no stroke and no curve begins one.
close_opens_none : (start : Point) (there closing : Bool) → list_any is_opening (drawn_by there start closing None) ≡ false
close_opens_none start true true = refl
close_opens_none start false true = refl
close_opens_none start true false = refl
close_opens_none start false false = refl

pub strokes_open_none : (start : Point) (v : List ℤ) (closing : Bool) (token : CharToken) → list_any is_opening (drawn_by true start closing (stroke_at start v token)) ≡ false
strokes_open_none start v closing (Command Rlineto) = refl
strokes_open_none start v closing (Command Hlineto) = refl
strokes_open_none start v closing (Command Vlineto) = refl
strokes_open_none start v closing (Command Rrcurveto) = refl
strokes_open_none start v closing (Command Vhcurveto) = refl
strokes_open_none start v closing (Command Hvcurveto) = refl
strokes_open_none start v closing (Command _) = close_opens_none start true closing
strokes_open_none start v closing _ = close_opens_none start true closing

pub curves_open_none : (places : List Point) → list_any is_opening (flex_curves true places) ≡ false
curves_open_none (start ∷ reference ∷ a ∷ b ∷ c ∷ d ∷ e ∷ f ∷ []) = refl
curves_open_none _ = refl

-- A drawing step without P01 has a subpath.
has_one : (draws : Bool) (before : List StepView) → (draws && not (is_moved before)) ≡ false → draws ≡ true → has_subpath before ≡ true
has_one draws before fine is = moved_is_subpath before (unmoved (is_moved before) (sym (ap (λ d. d && not (is_moved before)) is) ∙ fine))
  where
    unmoved : (m : Bool) → not m ≡ false → m ≡ true
    unmoved true e = refl
    unmoved false e = let no : true ≡ false = e in cc

pub subpaths_begin_at_moves : SubpathsBeginAtMoves
subpaths_begin_at_moves edition before t fine outside =
    rw outside (go (draws_flex before t) (is_line t.token) refl refl)
  where
    unbroken : (drawing before t && not (is_moved before)) ≡ false
    unbroken = sym (p01_row edition before t) ∙ fine

    of_flex : draws_flex before t ≡ true → drawing before t ≡ true
    of_flex e = rw ((and_both (is_flex_end t && in_flex before) (not (is_spoiled (before ++ t ∷ []))) e).0) (ends (is_line t.token))
      where
        ends : (b : Bool) → (b || true) ≡ true
        ends true = refl
        ends false = refl

    go : (flexes lines : Bool) → draws_flex before t ≡ flexes → is_line t.token ≡ lines
        → list_any is_opening (if flexes then flex_curves (has_subpath before) (flex_places before)
        else drawn_by (has_subpath before) (current_point before) (closes t.token) (stroke (current_point before) t)) ≡ false
    go true lines e l =
        rw (has_one (drawing before t) before unbroken (of_flex e)) (curves_open_none (flex_places before))
    go false true e l =
        rw (has_one (drawing before t) before unbroken (or_left (is_line t.token) (is_flex_end t && in_flex before) l))
        (strokes_open_none (current_point before) t.stack (closes t.token) t.token)
    go false false e l =
        rw (no_stroke (current_point before) t.stack t.token l) (close_opens_none (current_point before) (has_subpath before) (closes t.token))
