-- The steps that reasons name.
use Rattle.std.proofs.Common.{◌≡◌, ◌&&◌, ◌||◌, not, ℕ, zero, suc, ◌+◌, ◌-◌, Bool, true, false, Option, Some, None, if◌then◌else◌, List, [], ◌∷◌, ◌++◌, append_assoc, length, slice_get, refl, sym, ap, subst, ◌∙◌, arith}
use Rattle.std.specs.List.{find}
use Rattle.std.specs.Option.{option_or}
use Rattle.t1_char.specs.declared.edition.Edition.{Edition}
use Rattle.t1_char.specs.Editions.{has_later_rules}
use Rattle.t1_char.specs.Since.{Test, any_from, any_so_far, last_of}
use Rattle.t1_char.specs.Steps.{StepView}
use Rattle.t1_rules.specs.declared.rule.Rule.{Rule}
use Rattle.t1_rules.specs.declared.rule.Rule.TheVariants.{W02, W03, P01, P03, H01, X01, X03, O05, O06, O08, K06}
use Rattle.t1_rules.specs.Book.{number_of}
use Rattle.t1_rules.specs.declared.sidebearings.Component.{Component}
use Rattle.t1_rules.specs.StepRules.{argument_rules, breaks, call_rules, charstring_rules, component_rules, counter_rules, flex_rules, othersubr_rules, path_rules, seac_rules, stem_rules, step_rules, triple_rules}
use Rattle.t1_rules.specs.StepRules.Counters.{calls_first, is_counting}
use Rattle.t1_rules.specs.StepRules.Othersubrs.{calls_by_numbers}
use Rattle.t1_rules.specs.StepRules.Paths.{clearing_step}
use Rattle.t1_rules.specs.StepRules.Tokens.{clears}
use Rattle.t1_rules.proofs.Lemmas.Book.{both}
use Rattle.t1_rules.proofs.Lemmas.StepRules.{row_decides}
use Rattle.t1_reasons.specs.Backgrounds.{told_step}
use Rattle.t1_reasons.specs.declared.reason.Reason.{Reason}
use Rattle.t1_reasons.specs.declared.reason.Reason.TheVariants.{Since}
use Rattle.t1_reasons.specs.Carried.{carried_from, last_on, last_such}
use Rattle.t1_reasons.specs.Laws.{IsLastOf, NoneIsSuch}
use Rattle.t1_reasons.specs.NamedSteps.{LastStepsAreTheBooks, NamedStepsAreOfTheirKinds, NamesLast, NothingWasClearedYet, calling_step, kind_named, names_step, step_at}
use Rattle.t1_reasons.specs.StepReasons.{is_any, only_where, step_reason}
use Rattle.t1_reasons.proofs.LastCommands.{last_or}
use Rattle.t1_reasons.proofs.LastSteps.{told_steps_are_the_last}

-- ---- steps

-- What a rule says is told where it is broken, and is then the one thing that it says.
only_told : (b : Bool) (told reason : Reason) → find is_any (only_where b told) ≡ Some reason → told ≡ reason
only_told true told reason is = cc
only_told false told reason is = let no : None ≡ Some reason = is in cc

named : (kind : Test) (before : List StepView) (b : Bool) (reason : Reason)
    → find is_any (only_where b (Since (last_such kind before))) ≡ Some reason → NamesLast kind before reason
named kind before b reason is = subst (NamesLast kind before) (only_told b (Since (last_such kind before)) reason is) (told_steps_are_the_last kind before)

pub broken_where_told : (b : Bool) (told reason : Reason) → find is_any (only_where b told) ≡ Some reason → b ≡ true
broken_where_told true told reason is = refl
broken_where_told false told reason is = let no : None ≡ Some reason = is in cc

-- ---- the first call

neither : (a b : Bool) → (a || b) ≡ false → (a ≡ false) × (b ≡ false)
neither false false is = (refl, refl)
neither false true is = let no : true ≡ false = is in cc
neither true b is = let no : true ≡ false = is in cc

none_clears : (front ss : List StepView) → any_from clearing_step front ss ≡ false → (place : ℕ) (s : StepView) → slice_get ss place ≡ Some s → clears s.token ≡ false
none_clears front [] none place s there = let no : None ≡ Some s = there in cc
none_clears front (t ∷ ts) none zero s there =
    let same : t ≡ s = cc in
    subst (λ (x : StepView). clears x.token ≡ false) same (neither (clears t.token) (any_from clearing_step (front ++ t ∷ []) ts) none).0
none_clears front (t ∷ ts) none (suc place) s there =
    none_clears (front ++ t ∷ []) ts (neither (clears t.token) (any_from clearing_step (front ++ t ∷ []) ts) none).1 place s there

nothing_cleared : (edition : Edition) (components : List Component) (before : List StepView) (step : StepView)
    → breaks (charstring_rules edition components) 93 before step ≡ true → NoneIsSuch clearing_step before
unfolding charstring_rules step_rules argument_rules call_rules path_rules stem_rules flex_rules othersubr_rules seac_rules triple_rules counter_rules component_rules
nothing_cleared edition components before step broken =
    none_clears [] before (is_not (any_so_far clearing_step before)
    (both (calls_by_numbers step && not (is_counting step)) (not (any_so_far clearing_step before))
    (both (has_later_rules edition) (calls_first before step)
    (sym (row_decides 93 (charstring_rules edition components) 46 _ refl refl refl refl before step) ∙ broken)).1).1)
  where
    is_not : (b : Bool) → not b ≡ true → b ≡ false
    is_not true is = let no : false ≡ true = is in cc
    is_not false is = refl

pub nothing_was_cleared : NothingWasClearedYet
nothing_was_cleared edition components before step reason is =
    nothing_cleared edition components before step (broken_where_told (breaks (charstring_rules edition components) 93 before step) _ reason is)

-- Where no command clears the stack, the last step that tells something is the last call.
last_call : (before : List StepView) → NoneIsSuch clearing_step before → (found : Option ℕ) → IsLastOf told_step before found → IsLastOf calling_step before found
last_call before none None last = λ place s there. (neither (clears s.token) (calls_by_numbers s) (last place s there)).1
last_call before none (Some number) last = record {
  place = last.place;
  step = last.step;
  number_is = last.number_is;
  there = last.there;
  such = called (clears last.step.token) (calls_by_numbers last.step) (none last.place last.step last.there) last.such;
  last = λ later s less there. (neither (clears s.token) (calls_by_numbers s) (last.last later s less there)).1;
}
  where
    called : (a b : Bool) → a ≡ false → (a || b) ≡ true → b ≡ true
    called true b none such = let no : true ≡ false = none in cc
    called false b none such = such

pub named_steps : NamedStepsAreOfTheirKinds
named_steps edition components rule before step reason names is = go rule names is
  where
    broken : Rule → Bool
    broken r = breaks (charstring_rules edition components) (number_of r) before step

    go : (r : Rule) → names_step r ≡ true → step_reason edition components r before step ≡ Some reason → NamesLast (kind_named r) before reason
    go W02 names is = named (kind_named W02) before (broken W02) reason is
    go W03 names is =
        subst (NamesLast calling_step before) (only_told (broken W03) (Since (last_such told_step before)) reason is)
        (last_call before (nothing_was_cleared edition components before step reason is) (last_such told_step before)
        (told_steps_are_the_last told_step before))
    go P01 names is = named (kind_named P01) before (broken P01) reason is
    go P03 names is = named (kind_named P03) before (broken P03) reason is
    go H01 names is = named (kind_named H01) before (broken H01) reason is
    go X01 names is = named (kind_named X01) before (broken X01) reason is
    go X03 names is = named (kind_named X03) before (broken X03) reason is
    go O05 names is = named (kind_named O05) before (broken O05) reason is
    go O06 names is = named (kind_named O06) before (broken O06) reason is
    go O08 names is = named (kind_named O08) before (broken O08) reason is
    go K06 names is = named (kind_named K06) before (broken K06) reason is
    go _ names is = let no : false ≡ true = names in cc

-- ---- the last of the book

pub there : (front : List StepView) (s : StepView) (ss : List StepView) → slice_get (front ++ s ∷ ss) (length front + 1 - 1) ≡ Some s
there front s ss = ap (slice_get (front ++ s ∷ ss)) (let same : length front + 1 - 1 ≡ length front = omega arith in same) ∙ at front
  where
    at : (front : List StepView) → slice_get (front ++ s ∷ ss) (length front) ≡ Some s
    at [] = refl
    at (t ∷ ts) = at ts

last_from : (kind : StepView → Bool) (front ss : List StepView) (last : Option ℕ)
    → step_at (front ++ ss) (carried_from (last_on (λ before s. kind s)) last front ss)
    ≡ option_or (last_of kind ss) (step_at (front ++ ss) last)
last_from kind front [] last = refl
last_from kind front (s ∷ ss) last =
    ap (λ all. step_at all (carried_from (last_on (λ before s. kind s)) next (front ++ s ∷ []) ss)) (sym (append_assoc front (s ∷ []) ss))
    ∙ last_from kind (front ++ s ∷ []) ss next
    ∙ ap (λ all. option_or (last_of kind ss) (step_at all next)) (append_assoc front (s ∷ []) ss)
    ∙ go (last_of kind ss) (kind s)
    ∙ rw (last_or kind s ss) refl
  where
    next : Option ℕ
    next = if kind s then Some (length front + 1) else last

    go : (later : Option StepView) (here : Bool)
        → option_or later (step_at (front ++ s ∷ ss) (if here then Some (length front + 1) else last))
        ≡ option_or (option_or later (if here then Some s else None)) (step_at (front ++ s ∷ ss) last)
    go None true = there front s ss
    go None false = refl
    go (Some t) here = refl

pub last_steps : LastStepsAreTheBooks
last_steps kind steps = last_from kind [] steps None ∙ none (last_of kind steps)
  where
    none : (last : Option StepView) → option_or last None ≡ last
    none None = refl
    none (Some t) = refl
