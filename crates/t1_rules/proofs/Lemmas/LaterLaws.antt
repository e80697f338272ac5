-- What the rules after number 70 change, and where a stem stands beside three of one command.
use Rattle.std.proofs.Common.{◌≡◌, ℕ, zero, suc, ◌<◌, ◌≤◌, ◌&&◌, ◌||◌, ◌⊎◌, inl, inr, not, if◌then◌else◌, Bool, true, false, Some, None, is_some, List, [], ◌∷◌, ◌++◌, take, slice_get, refl, sym, ap, ◌∙◌, arith}
use Rattle.std.specs.List.{list_any}
use Rattle.std.proofs.Math.Bool.{or-false}
use Rattle.t1_char.specs.declared.command.Command.{Command as Commands}
use Rattle.t1_char.specs.declared.command.Command.TheVariants.{Callothersubr, Hstem, Hstem3, Vstem, Vstem3}
use Rattle.t1_char.specs.declared.edition.Edition.{Edition}
use Rattle.t1_char.specs.declared.edition.Edition.TheVariants.{Three, Two}
use Rattle.t1_char.specs.declared.token.CharToken.{CharToken}
use Rattle.t1_char.specs.declared.token.CharToken.TheVariants.{Command}
use Rattle.t1_char.specs.Arguments.{is_callothersubr, is_hint_replacement}
use Rattle.t1_char.specs.Editions.{has_later_rules, limit_of}
use Rattle.t1_char.specs.Since.{last_of}
use Rattle.t1_char.specs.Steps.{StepView}
use Rattle.t1_rules.specs.declared.rule.Rule.TheVariants.{H06, H07}
use Rattle.t1_rules.specs.declared.sidebearings.Component.{Component}
use Rattle.t1_rules.specs.declared.step_rules.triples.Triple.{Triple}
use Rattle.t1_rules.specs.Book.{last_number_before, last_number_of_third}
use Rattle.t1_rules.specs.Components.{components_of}
use Rattle.t1_rules.specs.Laws.Later.{EarlierEditionsBreakNoLaterRule, FirstThreeBreakNoLatestRule, FourthBreaksAsTheThird, HasNoSay, OneStemStandsBeside, ReplacementsHaveNoSay, StandsBesideAt, ThirdAgreesWithSecond}
use Rattle.t1_rules.specs.Laws.Stems.{across, upright}
use Rattle.t1_rules.specs.StepRules.{breaks, charstring_rules, component_rules, counter_rules, stem_rules, step_rules, triple_rules}
use Rattle.t1_rules.specs.StepRules.Stems.{lies_across, stands_upright}
use Rattle.t1_rules.specs.StepRules.Tokens.{is_command}
use Rattle.t1_rules.specs.StepRules.Triples.{came, is_first_beside, is_hstem, is_hstem3, is_vstem, is_vstem3, last_triple, changes_by, sets_beside, stands_beside, triple_of}
use Rattle.t1_rules.proofs.Lemmas.Counters.{some_goes_on}
use Rattle.t1_rules.proofs.Lemmas.Editions.{all_rules}
use Rattle.t1_rules.proofs.Lemmas.OthersubrCalls.{is_called}
use Rattle.t1_rules.proofs.Lemmas.Rows.{h06_row, h07_row}
use Rattle.t1_rules.proofs.Lemmas.StepRules.{broken_have_these_numbers, first_agrees, first_rules, in_parts, later_between, number_between, seen}
use Rattle.t1_rules.proofs.Lemmas.Triples.{last_triple_goes_on}

-- ---- editions

component_number : (components : List Component) (n : ℕ) (before : List StepView) (step : StepView) → breaks (component_rules components) n before step ≡ true
    → (64 ≤ n) × (n ≤ 68)
unfolding component_rules
component_number components = number_between 64 68 (component_rules components) refl

pub earlier_editions_break_no_later_rule : EarlierEditionsBreakNoLaterRule
earlier_editions_break_no_later_rule edition none font n before step broken =
    go (breaks (step_rules edition) n before step) refl (sym (all_rules edition (components_of (limit_of edition) font) n before step) ∙ broken)
  where
    of_steps : ((26 ≤ n) × (n ≤ 67)) ⊎ ((has_later_rules edition ≡ true) × ((86 ≤ n) × (n ≤ last_number_of_third))) → n ≤ last_number_before
    of_steps (inl less) = omega (arith, less.1)
    of_steps (inr more) = let no : true ≡ false = sym more.0 ∙ none in cc

    go : (b : Bool) → breaks (step_rules edition) n before step ≡ b
        → (breaks (step_rules edition) n before step || breaks (component_rules (components_of (limit_of edition) font)) n before step) ≡ true
        → n ≤ last_number_before
    go true is some = of_steps (broken_have_these_numbers edition n before step is)
    go false is some =
        let numbers = component_number (components_of (limit_of edition) font) n before step
        (sym (ap (λ b. b || breaks (component_rules (components_of (limit_of edition) font)) n before step) is) ∙ some) in
        omega (arith, numbers.1)

-- The later part says nothing of such numbers.
none_up_to : (edition : Edition) (n : ℕ) (before : List StepView) (step : StepView) → n ≤ last_number_before
    → breaks (triple_rules edition ++ counter_rules edition) n before step ≡ false
none_up_to edition n before step few = go (breaks (triple_rules edition ++ counter_rules edition) n before step) refl
  where
    go : (b : Bool) → breaks (triple_rules edition ++ counter_rules edition) n before step ≡ b → b ≡ false
    go false is = refl
    go true is =
        let numbers = number_between 86 last_number_of_third (triple_rules edition ++ counter_rules edition) (later_between edition) n before step is in
        absurd (omega (arith, few, numbers.0))

pub third_agrees_with_second : ThirdAgreesWithSecond
third_agrees_with_second font n before step few =
    all_rules Three (components_of (limit_of Three) font) n before step
    ∙ ap (λ b. b || breaks (component_rules (components_of (limit_of Two) font)) n before step) steps
    ∙ sym (all_rules Two (components_of (limit_of Two) font) n before step)
  where
    steps : breaks (step_rules Three) n before step ≡ breaks (step_rules Two) n before step
    steps =
        in_parts Three n before step
        ∙ ap (λ b. breaks (first_rules Three) n before step || b) (none_up_to Three n before step few ∙ sym (none_up_to Two n before step few))
        ∙ ap (λ b. b || breaks (triple_rules Two ++ counter_rules Two) n before step) (first_agrees n before step)
        ∙ sym (in_parts Two n before step)

-- What a step of an edition breaks is of a rule up to number 93, but for those of the fourth edition alone.
pub first_three_break_no_latest_rule : FirstThreeBreakNoLatestRule
first_three_break_no_latest_rule edition none font n before step broken =
    go (breaks (step_rules edition) n before step) refl (sym (all_rules edition (components_of (limit_of edition) font) n before step) ∙ broken)
  where
    of_steps : ((26 ≤ n) × (n ≤ 67)) ⊎ ((has_later_rules edition ≡ true) × ((86 ≤ n) × (n ≤ last_number_of_third))) → n ≤ last_number_of_third
    of_steps (inl less) = omega (arith, less.1)
    of_steps (inr more) = more.1.1

    go : (b : Bool) → breaks (step_rules edition) n before step ≡ b
        → (breaks (step_rules edition) n before step || breaks (component_rules (components_of (limit_of edition) font)) n before step) ≡ true
        → n ≤ last_number_of_third
    go true is some = of_steps (broken_have_these_numbers edition n before step is)
    go false is some =
        let numbers = component_number (components_of (limit_of edition) font) n before step
        (sym (ap (λ b. b || breaks (component_rules (components_of (limit_of edition) font)) n before step) is) ∙ some) in
        omega (arith, numbers.1)

pub fourth_breaks_as_the_third : FourthBreaksAsTheThird
unfolding charstring_rules step_rules stem_rules triple_rules counter_rules
fourth_breaks_as_the_third font n before step few = refl

-- ---- hint replacements

call_token : (token : CharToken) → is_callothersubr token ≡ true → token ≡ Command Callothersubr
call_token (Command Callothersubr) is = refl
call_token _ is = let no : false ≡ true = is in cc

no_kind : (kind : CharToken → Bool) → kind (Command Callothersubr) ≡ false → (r : StepView) → is_hint_replacement r ≡ true → kind r.token ≡ false
no_kind kind none r is = ap kind (call_token r.token (is_called 3 1 r is).call) ∙ none

came_same : (kind : CharToken → Bool) → kind (Command Callothersubr) ≡ false → (before : List StepView) (r : StepView) → is_hint_replacement r ≡ true
    → came kind (before ++ r ∷ []) ≡ came kind before
came_same kind none before r is = some_goes_on (λ s. kind s.token) before r ∙ rw (no_kind kind none r is) (or-false (came kind before))

last_same : (kind : CharToken → Bool) → kind (Command Callothersubr) ≡ false → (before : List StepView) (r : StepView) → is_hint_replacement r ≡ true
    → last_triple kind (before ++ r ∷ []) ≡ last_triple kind before
last_same kind none before r is = last_triple_goes_on kind before r ∙ rw (no_kind kind none r is) refl

beside_same : (token : CharToken) (before : List StepView) (r : StepView) → is_hint_replacement r ≡ true
    → stands_beside token (before ++ r ∷ []) ≡ stands_beside token before
beside_same (Command Hstem) before r is = rw (came_same is_hstem refl before r is, came_same is_hstem3 refl before r is) refl
beside_same (Command Hstem3) before r is = rw (came_same is_hstem refl before r is, came_same is_hstem3 refl before r is) refl
beside_same (Command Vstem) before r is = rw (came_same is_vstem refl before r is, came_same is_vstem3 refl before r is) refl
beside_same (Command Vstem3) before r is = rw (came_same is_vstem refl before r is, came_same is_vstem3 refl before r is) refl
beside_same _ before r is = refl

another_same : (token : CharToken) (triple : Triple) (before : List StepView) (r : StepView) → is_hint_replacement r ≡ true
    → changes_by token (before ++ r ∷ []) triple ≡ changes_by token before triple
another_same (Command Hstem3) triple before r is = rw (last_same is_hstem3 refl before r is) refl
another_same (Command Vstem3) triple before r is = rw (last_same is_vstem3 refl before r is) refl
another_same _ triple before r is = refl

beside_has_no_say : HasNoSay H06
beside_has_no_say edition before r step is =
    h06_row edition (before ++ r ∷ []) step ∙ ap (λ b. has_later_rules edition && b) (beside_same step.token before r is) ∙ sym (h06_row edition before step)

another_has_no_say : HasNoSay H07
another_has_no_say edition before r step is =
    h07_row edition (before ++ r ∷ []) step ∙ ap (λ b. has_later_rules edition && b) (another_same step.token (triple_of step) before r is)
    ∙ sym (h07_row edition before step)

pub replacements_have_no_say : ReplacementsHaveNoSay
replacements_have_no_say = (beside_has_no_say, another_has_no_say)

-- ---- one place for each direction

some_such : (f : StepView → Bool) (steps : List StepView) → is_some (last_of f steps) ≡ list_any f steps
some_such f [] = refl
some_such f (s ∷ ss) = go (list_any f ss) (f s) refl (some_such f ss)
  where
    always : (b : Bool) → true ≡ (b || true)
    always true = refl
    always false = refl

    go : (later here : Bool) → list_any f ss ≡ later → is_some (last_of f ss) ≡ list_any f ss
        → is_some (if later then last_of f ss else (if here then Some s else None)) ≡ (here || later)
    go true here is so = so ∙ is ∙ always here
    go false true is so = refl
    go false false is so = refl

kept : (f : StepView → Bool) (steps : List StepView) (place later : ℕ) → place < later → list_any f (take place steps) ≡ true → list_any f (take later steps) ≡ true
kept f steps zero later less some = let no : false ≡ true = some in cc
kept f [] (suc place) later less some = let no : false ≡ true = some in cc
kept f (s ∷ ss) (suc place) zero less some = absurd (omega (arith, less))
kept f (s ∷ ss) (suc place) (suc later) less some = go (f s) (kept f ss place later (omega (arith, less))) some
  where
    go : (b : Bool) → (list_any f (take place ss) ≡ true → list_any f (take later ss) ≡ true) → (b || list_any f (take place ss)) ≡ true
        → (b || list_any f (take later ss)) ≡ true
    go true on some = refl
    go false on some = on some

-- The first command of a kind, behind one of another.
record IsFirst (kind other : CharToken → Bool) (steps : List StepView) (place : ℕ) : Type 0 where
  step : StepView
  there : slice_get steps place ≡ Some step
  such : kind step.token ≡ true
  none : came kind (take place steps) ≡ false
  some : came other (take place steps) ≡ true

not_same_later : (kind other : CharToken → Bool) (steps : List StepView) (place later : ℕ) → IsFirst kind other steps place → IsFirst kind other steps later
    → place < later → ⊥
not_same_later kind other steps place later a b less =
    let came_there : came kind (take later steps) ≡ true = some_such (λ s. kind s.token) (take later steps) ∙ seen (λ s. kind s.token) steps place later a.step a.there less a.such in
    let no : false ≡ true = sym b.none ∙ came_there in
    cc

not_other_later : (kind other : CharToken → Bool) (steps : List StepView) (place later : ℕ) → IsFirst kind other steps place → IsFirst other kind steps later
    → place < later → ⊥
not_other_later kind other steps place later a b less =
    let came_there : came other (take later steps) ≡ true =
    some_such (λ s. other s.token) (take later steps)
    ∙ kept (λ s. other s.token) steps place later less (sym (some_such (λ s. other s.token) (take place steps)) ∙ a.some) in
    let no : false ≡ true = sym b.none ∙ came_there in
    cc

-- One of the two kinds of a direction is.
IsFirstOf : (CharToken → Bool) → (CharToken → Bool) → List StepView → ℕ → Type 0
IsFirstOf one three steps place = IsFirst one three steps place ⊎ IsFirst three one steps place

not_later : (one three : CharToken → Bool) (steps : List StepView) (place later : ℕ) → IsFirstOf one three steps place → IsFirstOf one three steps later
    → place < later → ⊥
unfolding IsFirstOf
not_later one three steps place later (inl a) (inl b) less = not_same_later one three steps place later a b less
not_later one three steps place later (inl a) (inr b) less = not_other_later one three steps place later a b less
not_later one three steps place later (inr a) (inl b) less = not_other_later three one steps place later a b less
not_later one three steps place later (inr a) (inr b) less = not_same_later three one steps place later a b less

at_one : (one three : CharToken → Bool) (steps : List StepView) (place other : ℕ) → IsFirstOf one three steps place → IsFirstOf one three steps other → place ≡ other
at_one one three steps place other a b = go (not_later one three steps place other a b) (not_later one three steps other place b a)
  where
    go : (place < other → ⊥) → (other < place → ⊥) → place ≡ other
    go not_less not_more = omega arith

parts : (none some : Bool) → (not none && some) ≡ true → (none ≡ false) × (some ≡ true)
parts false true is = (refl, refl)
parts false false is = let no : false ≡ true = is in cc
parts true some is = let no : false ≡ true = is in cc

module _ (steps : List StepView) (place : ℕ) (step : StepView) (there : slice_get steps place ≡ Some step) where
  first_of : (kind other : CharToken → Bool) → kind step.token ≡ true → is_first_beside kind other (take place steps) ≡ true → IsFirst kind other steps place
  first_of kind other such is =
      let both = parts (came kind (take place steps)) (came other (take place steps)) is in
      record { step = step; there = there; such = such; none = both.0; some = both.1 }

  first_across : (token : CharToken) → step.token ≡ token → is_command lies_across token ≡ true → stands_beside token (take place steps) ≡ true
      → IsFirstOf is_hstem is_hstem3 steps place
  unfolding IsFirstOf
  first_across (Command Hstem) at sets is = inl (first_of is_hstem is_hstem3 (rw at refl) is)
  first_across (Command Hstem3) at sets is = inr (first_of is_hstem3 is_hstem (rw at refl) is)
  first_across (Command Vstem) at sets is = let no : false ≡ true = sets in cc
  first_across (Command Vstem3) at sets is = let no : false ≡ true = sets in cc
  first_across _ at sets is = let no : false ≡ true = is in cc

  first_upright : (token : CharToken) → step.token ≡ token → is_command stands_upright token ≡ true → stands_beside token (take place steps) ≡ true
      → IsFirstOf is_vstem is_vstem3 steps place
  unfolding IsFirstOf
  first_upright (Command Vstem) at sets is = inl (first_of is_vstem is_vstem3 (rw at refl) is)
  first_upright (Command Vstem3) at sets is = inr (first_of is_vstem3 is_vstem (rw at refl) is)
  first_upright (Command Hstem) at sets is = let no : false ≡ true = sets in cc
  first_upright (Command Hstem3) at sets is = let no : false ≡ true = sets in cc
  first_upright _ at sets is = let no : false ≡ true = is in cc

second : (a b : Bool) → (a && b) ≡ true → b ≡ true
second true b is = is
second false b is = let no : false ≡ true = is in cc

beside : (edition : Edition) (direction : Commands → Bool) (steps : List StepView) (place : ℕ) (a : StandsBesideAt edition direction steps place)
    → sets_beside (take place steps) a.step ≡ true
beside edition direction steps place a =
    second (has_later_rules edition) (sets_beside (take place steps) a.step) (sym (h06_row edition (take place steps) a.step) ∙ a.broken)

pub one_stem_stands_beside : OneStemStandsBeside
one_stem_stands_beside edition direction one three steps place other across a b =
    at_one is_hstem is_hstem3 steps place other
    (first_across steps place a.step a.there a.step.token refl a.sets (beside edition lies_across steps place a))
    (first_across steps other b.step b.there b.step.token refl b.sets (beside edition lies_across steps other b))
one_stem_stands_beside edition direction one three steps place other upright a b =
    at_one is_vstem is_vstem3 steps place other
    (first_upright steps place a.step a.there a.step.token refl a.sets (beside edition stands_upright steps place a))
    (first_upright steps other b.step b.there b.step.token refl b.sets (beside edition stands_upright steps other b))
