-- What the last steps were: rules on what follows a hint replacement, the end of a flex, or what was drawn.
use Rattle.std.proofs.Common.{◌≡◌, ℕ, suc, ◌==◌, ◌&&◌, ◌||◌, not, Bool, true, false, ℤ, List, [], ◌∷◌, ◌++◌, length, take, append_assoc, refl, sym, ap, ◌∙◌, arith}
use Rattle.std.proofs.lemmas.Bool.{eqb-true}
use Rattle.t1_char.specs.declared.command.Command.{Command as Commands}
use Rattle.t1_char.specs.declared.command.Command.TheVariants.{Callsubr, Hlineto, Hstem, Hstem3, Hvcurveto, Pop, Rlineto, Rrcurveto, Setcurrentpoint, Vhcurveto, Vlineto, Vstem, Vstem3}
use Rattle.t1_char.specs.declared.token.CharToken.{CharToken}
use Rattle.t1_char.specs.declared.token.CharToken.TheVariants.{Command}
use Rattle.t1_char.specs.Arguments.{is_flex_end, is_hint_replacement}
use Rattle.t1_char.specs.Effects.{State, popped}
use Rattle.t1_char.specs.Laws.Since.{IsSince}
use Rattle.t1_char.specs.Since.{was}
use Rattle.t1_char.specs.Steps.{StepView, effect_at, is_callsubr, step_at}
use Rattle.t1_char.proofs.SincePlaces.{since_is_by_places}
use Rattle.t1_rules.specs.Laws.Flex.{FollowsFlex, SetcurrentpointAloneFollows, SetcurrentpointFollowsFlex}
use Rattle.t1_rules.specs.Laws.Othersubrs.{PopsAlonePopNothing, PopsOfNothingChangeNothing}
use Rattle.t1_rules.specs.Laws.Replacements.{Draws, IsDrawn, IsLine, IsStem, LacksCallsubr, LacksPop, ReplacementsWantCallsubr, ReplacementsWantPop, StemsAloneAreLate, StemsAreLateBehindDrawing, by_flex, by_line, hlineto, hstem, hstem3, hvcurveto, rlineto, rrcurveto, vhcurveto, vlineto, vstem, vstem3}
use Rattle.t1_rules.specs.StepRules.Flex.{is_ended_and_popped}
use Rattle.t1_rules.specs.StepRules.Paths.{drawing, in_flex}
use Rattle.t1_rules.specs.StepRules.Stems.{is_drawn, is_stem, popping, replacing_step}
use Rattle.t1_rules.specs.StepRules.Tokens.{is_line, is_pop, is_setcurrentpoint}
use Rattle.t1_rules.proofs.Lemmas.Before.{was_before, was_last}
use Rattle.t1_rules.proofs.Lemmas.Book.{both}
use Rattle.t1_rules.proofs.Lemmas.Rows.{h01_row, o04_row, r01_row, r02_row, x06_row}

-- Steps are none, or end with one.
data Ends (steps : List StepView) : Type 0 where
  no_step : steps ≡ [] → Ends steps
  with_last : (front : List StepView) (last : StepView) → steps ≡ front ++ last ∷ [] → Ends steps

ends_of : (steps : List StepView) → Ends steps
ends_of [] = no_step refl
ends_of (s ∷ ss) = go (ends_of ss)
  where
    go : Ends ss → Ends (s ∷ ss)
    go (no_step is) = with_last [] s (ap (λ (rest : List StepView). s ∷ rest) is)
    go (with_last front last is) = with_last (s ∷ front) last (ap (λ (rest : List StepView). s ∷ rest) is)

record Last (test : StepView → Bool) (steps : List StepView) : Type 0 where
  front : List StepView
  last : StepView
  ends : steps ≡ front ++ last ∷ []
  such : test last ≡ true

last_such : (test : StepView → Bool) (steps : List StepView) → was 0 test steps ≡ true → Last test steps
last_such test steps e = go (ends_of steps)
  where
    go : Ends steps → Last test steps
    go (no_step is) = let no : false ≡ true = sym (ap (was 0 test) is) ∙ e in cc
    go (with_last front last is) = record { front = front; last = last; ends = is; such = sym (was_last test front last) ∙ sym (ap (was 0 test) is) ∙ e }

before_such : (k : ℕ) (test : StepView → Bool) (front : List StepView) (last : StepView) (steps : List StepView) → steps ≡ front ++ last ∷ []
    → was (suc k) test steps ≡ true → was k test front ≡ true
before_such k test front last steps is e = sym (was_before k test front last) ∙ sym (ap (was (suc k) test) is) ∙ e

-- ---- tokens

pop_of : (token : CharToken) → is_pop token ≡ true → token ≡ Command Pop
pop_of (Command Pop) e = refl
pop_of _ e = let no : false ≡ true = e in cc

no_pop : (token : CharToken) → (token ≡ Command Pop → ⊥) → not (is_pop token) ≡ true
no_pop (Command Pop) other = absurd (other refl)
no_pop _ other = refl

no_callsubr : (token : CharToken) → (token ≡ Command Callsubr → ⊥) → not (is_callsubr token) ≡ true
no_callsubr (Command Callsubr) other = absurd (other refl)
no_callsubr _ other = refl

is_no_pop : (token : CharToken) → not (is_pop token) ≡ true → token ≡ Command Pop → ⊥
is_no_pop token e is = let no : false ≡ true = sym (ap (λ t. not (is_pop t)) is) ∙ e in cc

is_no_callsubr : (token : CharToken) → not (is_callsubr token) ≡ true → token ≡ Command Callsubr → ⊥
is_no_callsubr token e is = let no : false ≡ true = sym (ap (λ t. not (is_callsubr t)) is) ∙ e in cc

-- ---- hint replacement

lacks_pop : (before : List StepView) (step : StepView) → (not (is_pop step.token) && was 0 is_hint_replacement before) ≡ true → LacksPop before step
lacks_pop before step e =
    let parts = both _ _ e in
    let at = last_such is_hint_replacement before parts.1 in
    record { front = at.front; replacement = at.last; ends = at.ends; replaces = at.such; no_pop = is_no_pop step.token parts.0 }

pop_lacks : (before : List StepView) (step : StepView) → LacksPop before step → (not (is_pop step.token) && was 0 is_hint_replacement before) ≡ true
pop_lacks before step r =
    let came : was 0 is_hint_replacement before ≡ true = ap (was 0 is_hint_replacement) r.ends ∙ was_last is_hint_replacement r.front r.replacement
    ∙ r.replaces in
    rw (no_pop step.token r.no_pop, came) refl

pub replacements_want_pop : ReplacementsWantPop
replacements_want_pop edition before step = (
  λ e. lacks_pop before step (sym (r01_row edition before step) ∙ e),
  λ r. r01_row edition before step
      ∙ pop_lacks before step r,
)

-- Steps that end with two.
two_ends : (front : List StepView) (one other : StepView) → front ++ one ∷ other ∷ [] ≡ (front ++ one ∷ []) ++ other ∷ []
two_ends front one other = sym (append_assoc front (one ∷ []) (other ∷ []))

lacks_call : (before : List StepView) (step : StepView) → (not (is_callsubr step.token) && (was 1 is_hint_replacement before && was 0 popping before)) ≡ true
    → LacksCallsubr before step
lacks_call before step e =
    let parts = both _ _ e in
    let two = both _ _ parts.1 in
    let last = last_such popping before two.1 in
    let at = last_such is_hint_replacement last.front (before_such 0 is_hint_replacement last.front last.last before last.ends two.0) in
    record {
      front = at.front;
      replacement = at.last;
      popping = last.last;
      ends = last.ends ∙ ap (λ (f : List StepView). f ++ last.last ∷ []) at.ends ∙ sym (two_ends at.front at.last last.last);
      replaces = at.such;
      pops = pop_of last.last.token last.such;
      no_call = is_no_callsubr step.token parts.0;
    }

call_lacks : (before : List StepView) (step : StepView) → LacksCallsubr before step
    → (not (is_callsubr step.token) && (was 1 is_hint_replacement before && was 0 popping before)) ≡ true
call_lacks before step r =
    let ends : before ≡ (r.front ++ r.replacement ∷ []) ++ r.popping ∷ [] = r.ends ∙ two_ends r.front r.replacement r.popping in
    let pops : was 0 popping before ≡ true = ap (was 0 popping) ends ∙ was_last popping (r.front ++ r.replacement ∷ []) r.popping ∙ ap is_pop r.pops in
    let came : was 1 is_hint_replacement before ≡ true =
    ap (was 1 is_hint_replacement) ends ∙ was_before 0 is_hint_replacement (r.front ++ r.replacement ∷ []) r.popping
    ∙ was_last is_hint_replacement r.front r.replacement ∙ r.replaces in
    rw (no_callsubr step.token r.no_call, came, pops) refl

pub replacements_want_callsubr : ReplacementsWantCallsubr
replacements_want_callsubr edition before step = (
  λ e. lacks_call before step (sym (r02_row edition before step) ∙ e),
  λ r. r02_row edition before step
      ∙ call_lacks before step r,
)

-- ---- setcurrentpoint

three_ends : (front : List StepView) (one two three : StepView) → front ++ one ∷ two ∷ three ∷ [] ≡ ((front ++ one ∷ []) ++ two ∷ []) ++ three ∷ []
three_ends front one two three = sym (append_assoc front (one ∷ []) (two ∷ three ∷ [])) ∙ two_ends (front ++ one ∷ []) two three

follows_flex : (before : List StepView) → is_ended_and_popped before ≡ true → FollowsFlex before
follows_flex before e =
    let parts = both _ _ e in
    let two = both _ _ parts.0 in
    let last = last_such popping before parts.1 in
    let middle = last_such popping last.front (before_such 0 popping last.front last.last before last.ends two.1) in
    let end = last_such is_flex_end middle.front
    (before_such 0 is_flex_end middle.front middle.last last.front middle.ends (before_such 1 is_flex_end last.front last.last before last.ends two.0))
    in
    record {
      front = end.front;
      end = end.last;
      first = middle.last;
      second = last.last;
      ends = last.ends ∙ ap (λ (f : List StepView). f ++ last.last ∷ []) (middle.ends ∙ ap (λ (f : List StepView). f ++ middle.last ∷ []) end.ends)
          ∙ sym (three_ends end.front end.last middle.last last.last);
      is_end = end.such;
      first_pops = pop_of middle.last.token middle.such;
      second_pops = pop_of last.last.token last.such;
    }

flex_follows : (before : List StepView) → FollowsFlex before → is_ended_and_popped before ≡ true
flex_follows before r =
    let one : List StepView = r.front ++ r.end ∷ [] in
    let two : List StepView = one ++ r.first ∷ [] in
    let ends : before ≡ two ++ r.second ∷ [] = r.ends ∙ three_ends r.front r.end r.first r.second in
    let last : was 0 popping before ≡ true = ap (was 0 popping) ends ∙ was_last popping two r.second ∙ ap is_pop r.second_pops in
    let middle : was 1 popping before ≡ true = ap (was 1 popping) ends ∙ was_before 0 popping two r.second ∙ was_last popping one r.first
    ∙ ap is_pop r.first_pops in
    let end : was 2 is_flex_end before ≡ true =
    ap (was 2 is_flex_end) ends ∙ was_before 1 is_flex_end two r.second ∙ was_before 0 is_flex_end one r.first ∙ was_last is_flex_end r.front r.end
    ∙ r.is_end in
    rw (end, middle, last) refl

not_false : (b : Bool) → not b ≡ false → b ≡ true
not_false true e = refl
not_false false e = let no : true ≡ false = e in cc

pub setcurrentpoint_follows_flex : SetcurrentpointFollowsFlex
setcurrentpoint_follows_flex edition before step is =
    let broken = x06_row edition before step ∙ ap (λ token. is_setcurrentpoint token && not (is_ended_and_popped before)) is in
    (λ e. follows_flex before (not_false _ (sym broken ∙ e)), λ r. broken ∙ ap not (flex_follows before r))

no_setcurrentpoint : (token : CharToken) → (token ≡ Command Setcurrentpoint → ⊥) → is_setcurrentpoint token ≡ false
no_setcurrentpoint (Command Setcurrentpoint) other = absurd (other refl)
no_setcurrentpoint _ other = refl

pub setcurrentpoint_alone_follows : SetcurrentpointAloneFollows
setcurrentpoint_alone_follows edition before step other = x06_row edition before step ∙ rw (no_setcurrentpoint step.token other) refl

-- ---- pop of nothing

pub pops_of_nothing_change_nothing : PopsOfNothingChangeNothing
pops_of_nothing_change_nothing edition font path behind state before = (
  λ e. unchanged state.waiting refl (eqb-true (length state.waiting) 0 (sym (o04_row edition before (step_at font path (Command Pop) behind state)) ∙ e)),
  λ same. o04_row edition before (step_at font path (Command Pop) behind state) ∙ ap (λ n. n == 0) (nothing state.waiting refl same),
)
  where
    unchanged : (waiting : List ℤ) → state.waiting ≡ waiting → length state.waiting ≡ 0 → (effect_at font path (Command Pop) state).state ≡ state
    unchanged [] is none = rw is refl
    unchanged (z ∷ zs) is none = absurd (omega (arith, ap length is, none))

    nothing : (waiting : List ℤ) → state.waiting ≡ waiting → (effect_at font path (Command Pop) state).state ≡ state → length state.waiting ≡ 0
    nothing [] is same = ap length is
    nothing (z ∷ zs) is same =
        let fewer : length (popped state.stack state.waiting).waiting ≡ length zs = ap (λ (waiting : List ℤ). length (popped state.stack waiting).waiting) is in
        let as_many : length (popped state.stack state.waiting).waiting ≡ length state.waiting = ap (λ (s : State). length s.waiting) same in
        absurd (omega (arith, ap length is, fewer, as_many))

pub pops_alone_pop_nothing : PopsAlonePopNothing
pops_alone_pop_nothing edition before step other = o04_row edition before step ∙ rw (other_pop step.token other) refl
  where
    other_pop : (token : CharToken) → (token ≡ Command Pop → ⊥) → is_pop token ≡ false
    other_pop (Command Pop) other = absurd (other refl)
    other_pop _ other = refl

-- ---- stems after what was drawn

is_stem_of : (token : CharToken) (command : Commands) → token ≡ Command command → IsStem command → is_stem token ≡ true
is_stem_of token _ is hstem = ap is_stem is
is_stem_of token _ is vstem = ap is_stem is
is_stem_of token _ is hstem3 = ap is_stem is
is_stem_of token _ is vstem3 = ap is_stem is

no_stem_of : (token : CharToken) → ((command : Commands) → IsStem command → token ≡ Command command → ⊥) → is_stem token ≡ false
no_stem_of (Command Hstem) other = absurd (other Hstem hstem refl)
no_stem_of (Command Vstem) other = absurd (other Vstem vstem refl)
no_stem_of (Command Hstem3) other = absurd (other Hstem3 hstem3 refl)
no_stem_of (Command Vstem3) other = absurd (other Vstem3 vstem3 refl)
no_stem_of _ other = refl

by_token : (before : List StepView) (step : StepView) (token : CharToken) → step.token ≡ token → is_line token ≡ true → Draws before step
by_token before step (Command Rlineto) is e = by_line Rlineto is rlineto
by_token before step (Command Hlineto) is e = by_line Hlineto is hlineto
by_token before step (Command Vlineto) is e = by_line Vlineto is vlineto
by_token before step (Command Rrcurveto) is e = by_line Rrcurveto is rrcurveto
by_token before step (Command Vhcurveto) is e = by_line Vhcurveto is vhcurveto
by_token before step (Command Hvcurveto) is e = by_line Hvcurveto is hvcurveto
by_token before step _ is e = let no : false ≡ true = e in cc

draws : (before : List StepView) (step : StepView) → drawing before step ≡ true → Draws before step
draws before step e = go (is_line step.token) refl e
  where
    go : (b : Bool) → is_line step.token ≡ b → (b || (is_flex_end step && in_flex before)) ≡ true → Draws before step
    go true line e = by_token before step step.token refl line
    go false line e = let parts = both _ _ e in by_flex parts.0 parts.1

line_of : (token : CharToken) (command : Commands) → token ≡ Command command → IsLine command → is_line token ≡ true
line_of token _ is rlineto = ap is_line is
line_of token _ is hlineto = ap is_line is
line_of token _ is vlineto = ap is_line is
line_of token _ is rrcurveto = ap is_line is
line_of token _ is vhcurveto = ap is_line is
line_of token _ is hvcurveto = ap is_line is

drawn : (before : List StepView) (step : StepView) → Draws before step → drawing before step ≡ true
drawn before step (by_line command is line) = rw (line_of step.token command is line) refl
drawn before step (by_flex ends inside) = rw (ends, inside) (always (is_line step.token))
  where
    always : (b : Bool) → (b || true) ≡ true
    always true = refl
    always false = refl

no_longer : (b : Bool) → (b ≡ true → ⊥) → b ≡ false
no_longer true none = absurd (none refl)
no_longer false none = refl

by_places : (steps : List StepView) → IsSince drawing replacing_step steps → IsDrawn steps
by_places steps since = record {
  place = since.place;
  step = since.begins.step;
  there = since.begins.there;
  draws = draws (take since.place steps) since.begins.step since.begins.such;
  lasts = λ later other behind there. no_longer _ (λ replaced. since.lasts later behind (record { step = other; there = there; such = replaced }));
}

from_places : (steps : List StepView) → IsDrawn steps → IsSince drawing replacing_step steps
from_places steps is = record {
  place = is.place;
  begins = record { step = is.step; there = is.there; such = drawn (take is.place steps) is.step is.draws };
  lasts = λ later behind at. let no : false ≡ true = sym (is.lasts later at.step behind at.there) ∙ at.such in cc;
}

pub stems_are_late_behind_drawing : StemsAreLateBehindDrawing
stems_are_late_behind_drawing edition before step command is stem =
    let broken = h01_row edition before step ∙ ap (λ b. b && is_drawn before) (is_stem_of step.token command is stem) in
    let places = since_is_by_places drawing replacing_step before in
    (λ e. by_places before (places.0 (sym broken ∙ e)), λ is_so. broken ∙ places.1 (from_places before is_so))

pub stems_alone_are_late : StemsAloneAreLate
stems_alone_are_late edition before step other = h01_row edition before step ∙ rw (no_stem_of step.token other) refl
