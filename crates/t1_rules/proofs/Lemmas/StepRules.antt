-- Facts about a table of charstring rules, each shown of one table by computing a Bool of its rules; and
-- about steps of a list.
use Rattle.std.proofs.Common.{◌≡◌, ℕ, zero, suc, ◌<◌, ◌≤◌, ◌==◌, ◌&&◌, ◌||◌, ◌⊎◌, inl, inr, not, Bool, true, false, nat_le, Option, Some, None, List, [], ◌∷◌, ◌++◌, length, take, drop, slice_get, slice_index_or, refl, sym, ◌∙◌, ap, arith}
use Rattle.std.specs.List.{list_all, list_any}
use Rattle.std.proofs.Math.Bool.{and-false}
use Rattle.std.proofs.lemmas.Bool.{eqb-true, leb-true}
use Rattle.std.proofs.lemmas.List.Folds.{list_any-append}
use Rattle.t1_char.specs.declared.edition.Edition.{Edition}
use Rattle.t1_char.specs.declared.edition.Edition.TheVariants.{Three, Two}
use Rattle.t1_char.specs.Editions.{has_later_rules}
use Rattle.t1_char.specs.Numbers.{clamped}
use Rattle.t1_char.specs.Since.{any_from, any_so_far}
use Rattle.t1_char.specs.Steps.{StepView}
use Rattle.t1_char.proofs.SincePlaces.{since_is_by_places}
use Rattle.t1_rules.specs.Book.{last_number_of_third, number_of}
use Rattle.t1_rules.specs.Laws.StepRules.{StepRuleNumbersAreInOrder, ComponentRuleNumbersAreInOrder, BrokenStepsHaveTheseNumbers, LaterStepsHaveNoSay, ArgumentsCountFromTheBottom, SurplusNumbersAreNotPast, EndsBreakOneRule, OneStepStartsWithoutWidth, FlexIsByPlaces, MovedIsByPlaces, OpenIsByPlaces}
use Rattle.t1_rules.specs.StepRules.{StepRule, argument_rules, call_rules, component_rules, flex_rules, othersubr_rules, path_rules, seac_rules, stem_rules, step_rules, breaks, breaks_next, breaks_at, triple_rules, counter_rules}
use Rattle.t1_rules.specs.StepRules.Arguments.{is_past}
use Rattle.t1_rules.specs.StepRules.Calls.{ends_in_subr, ends_in_glyph}
use Rattle.t1_rules.specs.StepRules.Paths.{flex_start, flex_end, outer_move, drawing, closing_step, clearing_step, starts_without_width}
use Rattle.t1_rules.specs.StepRules.Tokens.{clears}
use Rattle.t1_rules.proofs.Lemmas.Book.{both}

pub numbers_in_order : StepRuleNumbersAreInOrder
unfolding step_rules argument_rules call_rules path_rules stem_rules flex_rules othersubr_rules seac_rules triple_rules counter_rules
numbers_in_order edition = refl

pub component_numbers_in_order : ComponentRuleNumbersAreInOrder
unfolding component_rules
component_numbers_in_order components = refl

-- All rules of a table have numbers between two others.
abbrev pub numbers_between : ℕ → ℕ → List StepRule → Bool
numbers_between least greatest rules =
    list_all (λ r. nat_le least (number_of r.rule) && nat_le (number_of r.rule) greatest) rules

pub number_between : (least greatest : ℕ) (rules : List StepRule) → numbers_between least greatest rules ≡ true → (n : ℕ) (before : List StepView) (step : StepView)
    → breaks rules n before step ≡ true → (least ≤ n) × (n ≤ greatest)
number_between least greatest [] within n before step broken = let no : false ≡ true = broken in cc
number_between least greatest (r ∷ rs) within n before step broken =
    let parts = both (nat_le least (number_of r.rule) && nat_le (number_of r.rule) greatest) (numbers_between least greatest rs) within in
    go (r.is_broken before step) (number_of r.rule == n) refl broken (both _ _ parts.0) (number_between least greatest rs parts.1 n before step)
  where
    go : (a b : Bool) → (number_of r.rule == n) ≡ b → (a && b || breaks rs n before step) ≡ true →
        (nat_le least (number_of r.rule) ≡ true) × (nat_le (number_of r.rule) greatest ≡ true) →
        (breaks rs n before step ≡ true → (least ≤ n) × (n ≤ greatest)) → (least ≤ n) × (n ≤ greatest)
    go false b e some here rest = rest some
    go true false e some here rest = rest some
    go true true e some here rest =
        let same : number_of r.rule ≡ n = eqb-true (number_of r.rule) n e in
        let found : (least ≤ number_of r.rule) × (number_of r.rule ≤ greatest) =
        (leb-true least (number_of r.rule) here.0, leb-true (number_of r.rule) greatest here.1) in
        rw same at found

-- The part up to number 70, and the rest.
pub first_rules : Edition → List StepRule
first_rules edition =
    argument_rules ++ (call_rules ++ (path_rules ++ (stem_rules edition ++ (flex_rules ++ (othersubr_rules ++ seac_rules)))))

pub in_parts : (edition : Edition) (n : ℕ) (before : List StepView) (step : StepView) → breaks (step_rules edition) n before step
    ≡ (breaks (first_rules edition) n before step || breaks (triple_rules edition ++ counter_rules edition) n before step)
unfolding first_rules step_rules argument_rules call_rules path_rules stem_rules flex_rules othersubr_rules seac_rules
in_parts edition n before step = list_any-append (λ r. r.is_broken before step && number_of r.rule == n) (first_rules edition) (triple_rules edition ++ counter_rules edition)

-- The first part is the same in the second edition and the third.
pub first_agrees : (n : ℕ) (before : List StepView) (step : StepView) → breaks (first_rules Three) n before step ≡ breaks (first_rules Two) n before step
unfolding first_rules stem_rules
first_agrees n before step = refl

first_between : (edition : Edition) → numbers_between 26 67 (first_rules edition) ≡ true
unfolding first_rules argument_rules call_rules path_rules stem_rules flex_rules othersubr_rules seac_rules
first_between edition = refl

pub later_between : (edition : Edition) → numbers_between 86 last_number_of_third (triple_rules edition ++ counter_rules edition) ≡ true
unfolding triple_rules counter_rules
later_between edition = refl

-- An edition that hasn't the rules after number 70 breaks none of them.
pub none_before : (edition : Edition) → has_later_rules edition ≡ false → (n : ℕ) (before : List StepView) (step : StepView)
    → breaks (triple_rules edition ++ counter_rules edition) n before step ≡ false
unfolding triple_rules counter_rules
none_before edition none n before step = rw none refl

pub broken_have_these_numbers : BrokenStepsHaveTheseNumbers
broken_have_these_numbers edition n before step broken =
    go (breaks (first_rules edition) n before step) (has_later_rules edition) refl refl (sym (in_parts edition n before step) ∙ broken)
  where
    later : List StepRule
    later = triple_rules edition ++ counter_rules edition

    go : (first has : Bool) → breaks (first_rules edition) n before step ≡ first → has_later_rules edition ≡ has
        → (breaks (first_rules edition) n before step || breaks later n before step) ≡ true
        → ((26 ≤ n) × (n ≤ 67)) ⊎ ((has_later_rules edition ≡ true) × ((86 ≤ n) × (n ≤ last_number_of_third)))
    go true has is there some = inl (number_between 26 67 (first_rules edition) (first_between edition) n before step is)
    go false true is there some =
        inr (there, number_between 86 last_number_of_third later (later_between edition) n before step (sym (ap (λ b. b || breaks later n before step) is) ∙ some))
    go false false is there some =
        let no : false ≡ true = sym (none_before edition there n before step) ∙ sym (ap (λ b. b || breaks later n before step) is) ∙ some in cc

-- No rule of a table has this number.
abbrev pub without_number : ℕ → List StepRule → Bool
without_number n rules = list_all (λ r. not (number_of r.rule == n)) rules

pub none_broken : (n : ℕ) (rules : List StepRule) → without_number n rules ≡ true → (before : List StepView) (step : StepView)
    → breaks rules n before step ≡ false
none_broken n [] other before step = refl
none_broken n (r ∷ rs) other before step =
    let parts = both (not (number_of r.rule == n)) (without_number n rs) other in
    go (number_of r.rule == n) parts.0 (none_broken n rs parts.1 before step)
  where
    go : (b : Bool) → not b ≡ true → breaks rs n before step ≡ false → (r.is_broken before step && b || breaks rs n before step) ≡ false
    go true e rest = let no : false ≡ true = e in cc
    go false e rest = rw (and-false (r.is_broken before step)) rest

-- The row that alone has its number decides.
pub row_decides : (n : ℕ) (rules : List StepRule) (place : ℕ) (r : StepRule) → slice_get rules place ≡ Some r → (number_of r.rule == n) ≡ true
    → without_number n (take place rules) ≡ true → without_number n (drop (suc place) rules) ≡ true
    → (before : List StepView) (step : StepView) → breaks rules n before step ≡ r.is_broken before step
row_decides n [] place r there own front rest before step = let no : None ≡ Some r = there in cc
row_decides n (q ∷ qs) zero r there own front rest before step =
    let same : q ≡ r = cc in
    rw (same, own, none_broken n qs rest before step) (last (r.is_broken before step))
  where
    last : (b : Bool) → (b && true || false) ≡ b
    last true = refl
    last false = refl
row_decides n (q ∷ qs) (suc place) r there own front rest before step =
    let parts = both (not (number_of q.rule == n)) (without_number n (take place qs)) front in
    go (number_of q.rule == n) parts.0 (row_decides n qs place r there own parts.1 rest before step)
  where
    go : (b : Bool) → not b ≡ true → breaks qs n before step ≡ r.is_broken before step
        → (q.is_broken before step && b || breaks qs n before step) ≡ r.is_broken before step
    go true e later = let no : false ≡ true = e in cc
    go false e later = rw (and-false (q.is_broken before step)) later

width_row : (edition : Edition) (before : List StepView) (step : StepView) → breaks (step_rules edition) 41 before step ≡ starts_without_width before step
unfolding step_rules argument_rules call_rules path_rules stem_rules flex_rules othersubr_rules seac_rules triple_rules counter_rules
width_row edition before step = row_decides 41 (step_rules edition) 15 _ refl refl refl refl before step

subr_row : (edition : Edition) (before : List StepView) (step : StepView) → breaks (step_rules edition) 38 before step ≡ ends_in_subr step
unfolding step_rules argument_rules call_rules path_rules stem_rules flex_rules othersubr_rules seac_rules triple_rules counter_rules
subr_row edition before step = row_decides 38 (step_rules edition) 12 _ refl refl refl refl before step

glyph_row : (edition : Edition) (before : List StepView) (step : StepView) → breaks (step_rules edition) 39 before step ≡ ends_in_glyph step
unfolding step_rules argument_rules call_rules path_rules stem_rules flex_rules othersubr_rules seac_rules triple_rules counter_rules
glyph_row edition before step = row_decides 39 (step_rules edition) 13 _ refl refl refl refl before step

pub ends_break_one_rule : EndsBreakOneRule
ends_break_one_rule edition before step ends = rw (subr_row edition before step, glyph_row edition before step, ends) refl

-- A prefix of a list with more after it.
take_front : {A : Type 0} (xs more : List A) (n : ℕ) → n ≤ length xs → take n (xs ++ more) ≡ take n xs
take_front xs more zero less = refl
take_front [] more (suc n) less = absurd (omega arith)
take_front (x ∷ xs) more (suc n) less = ap (λ ys. x ∷ ys) (take_front xs more n (omega arith))

get_front : {A : Type 0} (xs more : List A) (n : ℕ) → n < length xs → slice_get (xs ++ more) n ≡ slice_get xs n
get_front [] more n less = absurd (omega arith)
get_front (x ∷ xs) more zero less = refl
get_front (x ∷ xs) more (suc n) less = get_front xs more n (omega arith)

index_front : {A : Type 0} (xs more : List A) (n : ℕ) (d : A) → n < length xs → slice_index_or (xs ++ more) n d ≡ slice_index_or xs n d
index_front [] more n d less = absurd (omega arith)
index_front (x ∷ xs) more zero d less = refl
index_front (x ∷ xs) more (suc n) d less = index_front xs more n d (omega arith)

pub later_steps_have_no_say : LaterStepsHaveNoSay
later_steps_have_no_say rules n steps more place less =
    rw (take_front steps more place (omega arith), get_front steps more place less) refl

pub arguments_count_from_the_bottom : ArgumentsCountFromTheBottom
arguments_count_from_the_bottom stack more place less = ap clamped (index_front stack more place _ less)

pub surplus_numbers_are_not_past : SurplusNumbersAreNotPast
surplus_numbers_are_not_past count stack more enough = ap (list_any is_past) (take_front stack more count enough)

pub flex_is_by_places : FlexIsByPlaces
flex_is_by_places steps = since_is_by_places flex_start flex_end steps

pub moved_is_by_places : MovedIsByPlaces
moved_is_by_places steps = since_is_by_places outer_move closing_step steps

pub open_is_by_places : OpenIsByPlaces
open_is_by_places steps = since_is_by_places drawing closing_step steps

-- A command that clears the stack came, whatever was before the steps.
begun : (front steps : List StepView) → any_from clearing_step front steps ≡ list_any (λ s. clears s.token) steps
begun front [] = refl
begun front (s ∷ ss) = ap (λ b. clears s.token || b) (begun (front ++ s ∷ []) ss)

pub seen : (f : StepView → Bool) (steps : List StepView) (one other : ℕ) (s : StepView) → slice_get steps one ≡ Some s → one < other → f s ≡ true
    → list_any f (take other steps) ≡ true
seen f [] one other s there less such = let no : None ≡ Some s = there in cc
seen f (x ∷ xs) one zero s there less such = absurd (omega arith)
seen f (x ∷ xs) zero (suc other) s there less such = let same : x ≡ s = cc in rw (same, such) refl
seen f (x ∷ xs) (suc one) (suc other) s there less such = rw (seen f xs one other s there (omega arith) such) (always (f x))
  where
    always : (b : Bool) → (b || true) ≡ true
    always true = refl
    always false = refl

-- A step there starts without a width: it is a command that clears the stack, and none came before it.
record Starts (steps : List StepView) (place : ℕ) : Type 0 where
  step : StepView
  there : slice_get steps place ≡ Some step
  clears : clears step.token ≡ true
  first : any_so_far clearing_step (take place steps) ≡ false

starts : (edition : Edition) (steps : List StepView) (place : ℕ) → breaks_at (step_rules edition) 41 steps place ≡ true → Starts steps place
starts edition steps place broken = go (slice_get steps place) refl broken
  where
    parts : (a b c : Bool) → (a && b && not c) ≡ true → (a ≡ true) × (c ≡ false)
    parts true true false e = (refl, refl)
    parts true true true e = let no : false ≡ true = e in cc
    parts true false c e = let no : false ≡ true = e in cc
    parts false b c e = let no : false ≡ true = e in cc

    go : (found : Option StepView) → slice_get steps place ≡ found → breaks_next (step_rules edition) 41 (take place steps) found ≡ true → Starts steps place
    go None at e = let no : false ≡ true = e in cc
    go (Some s) at e =
        let both_parts = parts _ _ _ (sym (width_row edition (take place steps) s) ∙ e) in
        record { step = s; there = at; clears = both_parts.0; first = both_parts.1 }

not_later : (steps : List StepView) (one other : ℕ) → Starts steps one → Starts steps other → one < other → ⊥
not_later steps one other a b less =
    let came : any_so_far clearing_step (take other steps) ≡ true = begun [] (take other steps) ∙ seen (λ s. clears s.token) steps one other
    a.step a.there less a.clears in
    let no : false ≡ true = sym b.first ∙ came in
    cc

pub one_step_starts_without_width : OneStepStartsWithoutWidth
one_step_starts_without_width edition steps one other first second =
    let a = starts edition steps one first in
    let b = starts edition steps other second in
    go (not_later steps one other a b) (not_later steps other one b a)
  where
    go : (one < other → ⊥) → (other < one → ⊥) → one ≡ other
    go not_less not_more = omega arith
