-- What the watcher of counter control keeps, one step further, and what its rules say of a step.
use Rattle.std.proofs.Common.{◌≡◌, ℕ, ◌<◌, ◌≤◌, ◌-◌, ◌&&◌, ◌||◌, not, nat_le, if◌then◌else◌, Bool, true, false, Some, is_some, List, [], ◌∷◌, ◌++◌, length, refl, sym, ap, ◌∙◌, arith}
use Rattle.std.proofs.Math.Bool.{and-false, or-false}
use Rattle.std.proofs.lemmas.Bool.{le-leb}
use Rattle.t1_char.specs.declared.command.Command.TheVariants.{Callothersubr}
use Rattle.t1_char.specs.declared.edition.Edition.{Edition}
use Rattle.t1_char.specs.Arguments.{is_callothersubr}
use Rattle.t1_char.specs.Editions.{has_later_rules}
use Rattle.t1_char.specs.Numbers.{natural}
use Rattle.t1_char.specs.Since.{is_some_such, last_of}
use Rattle.t1_char.specs.Stacks.{from_top}
use Rattle.t1_char.specs.Steps.{StepView}
use Rattle.t1_char.proofs.LookingBack.{any_goes_on, last_goes_on}
use Rattle.t1_rules.specs.declared.rule.Rule.TheVariants.{O05, O06, O07, O08, W03}
use Rattle.t1_rules.specs.declared.step_rules.counters.CounterWatcher.{CounterWatcher}
use Rattle.t1_rules.specs.StepRules.{breaks, counter_rules}
use Rattle.t1_rules.specs.StepRules.Counters.{ends_counting, goes_on_counting, is_below, is_counting, is_told, last_told_is, opens_counting}
use Rattle.t1_rules.specs.StepRules.Othersubrs.{calls_by_numbers}
use Rattle.t1_rules.specs.StepRules.Paths.{clearing_step}
use Rattle.t1_rules.specs.StepRules.Tokens.{IsCommand, clears, sets_width}
use Rattle.t1_rules.specs.Private.KeyTests.{broken_among}
use Rattle.t1_rules.specs.Private.Standing.{CountersKeep, CountersStandFor}

-- ---- what is kept

pub last_told_goes_on : (kind : StepView → Bool) (before : List StepView) (t : StepView) → last_told_is kind (before ++ t ∷ [])
    ≡ (if is_told t then kind t else last_told_is kind before)
last_told_goes_on kind before t = ap (is_some_such kind) (last_goes_on is_told before t) ∙ go (is_told t)
  where
    go : (b : Bool) → is_some_such kind (if b then Some t else last_of is_told before) ≡ (if b then kind t else last_told_is kind before)
    go true = refl
    go false = refl

-- Whether there was a step of a kind.
pub some_goes_on : (kind : StepView → Bool) (before : List StepView) (t : StepView) → is_some (last_of kind (before ++ t ∷ []))
    ≡ (is_some (last_of kind before) || kind t)
some_goes_on kind before t = ap is_some (last_goes_on kind before t) ∙ go (kind t)
  where
    came : (b : Bool) → true ≡ (b || true)
    came true = refl
    came false = refl

    go : (b : Bool) → is_some (if b then Some t else last_of kind before) ≡ (is_some (last_of kind before) || b)
    go true = came (is_some (last_of kind before))
    go false = sym (or-false (is_some (last_of kind before)))

-- What is kept after a step, by what was kept before it.
pub one_more_counter : (old new : CounterWatcher) (before : List StepView) (t : StepView) → CountersKeep old before
    → new.begun ≡ (old.begun || clears t.token)
    → new.opened ≡ (if is_told t then opens_counting t else old.opened)
    → new.going_on ≡ (if is_told t then goes_on_counting t else old.going_on)
    → new.ended ≡ (old.ended || ends_counting t)
    → CountersKeep new (before ++ t ∷ [])
one_more_counter old new before t st begun opened going_on ended = record {
  begun = begun ∙ rw (st.begun, any_goes_on clearing_step before t);
  opened = opened ∙ rw st.opened (sym (last_told_goes_on opens_counting before t));
  going_on = going_on ∙ rw st.going_on (sym (last_told_goes_on goes_on_counting before t));
  ended = ended ∙ rw st.ended (sym (some_goes_on ends_counting before t));
}

-- A watcher stands for steps where it keeps what the edition asks for.
pub stand : (edition : Edition) (w : CounterWatcher) (before : List StepView) → w.is_on ≡ has_later_rules edition
    → (has_later_rules edition ≡ true → CountersKeep w before) → (has_later_rules edition ≡ false → w.going_on ≡ false)
    → CountersStandFor edition w before
stand edition w before is_on keeps off =
    record { is_on = is_on; kept = keeps; going_on = go (has_later_rules edition) refl }
  where
    go : (b : Bool) → has_later_rules edition ≡ b → w.going_on ≡ (has_later_rules edition && last_told_is goes_on_counting before)
    go true has = (keeps has).going_on ∙ sym (ap (λ b. b && last_told_is goes_on_counting before) has)
    go false none = off none ∙ sym (ap (λ b. b && last_told_is goes_on_counting before) none)

pub off_goes_nowhere : (edition : Edition) (w : CounterWatcher) (before : List StepView) → CountersStandFor edition w before → has_later_rules edition ≡ false
    → w.going_on ≡ false
off_goes_nowhere edition w before st none = st.going_on ∙ ap (λ b. b && last_told_is goes_on_counting before) none

-- Where the edition hasn't these rules, nothing has to be kept.
pub counters_stay_off : (edition : Edition) (w : CounterWatcher) (before : List StepView) (t : StepView) → has_later_rules edition ≡ false
    → CountersStandFor edition w before → CountersStandFor edition w (before ++ t ∷ [])
counters_stay_off edition w before t none st =
    stand edition w (before ++ t ∷ []) st.is_on (λ has. let no : true ≡ false = sym has ∙ none in cc) (off_goes_nowhere edition w before st)

-- Where it has them, what is kept goes on.
pub go_on_counting : (edition : Edition) (old new : CounterWatcher) (before : List StepView) (t : StepView) → has_later_rules edition ≡ true
    → new.is_on ≡ old.is_on → CountersStandFor edition old before → CountersKeep new (before ++ t ∷ [])
    → CountersStandFor edition new (before ++ t ∷ [])
go_on_counting edition old new before t has on st keeps =
    stand edition new (before ++ t ∷ []) (on ∙ st.is_on) (λ again. keeps) (λ none. let no : true ≡ false = sym has ∙ none in cc)

neither : (a b : Bool) → (a || b) ≡ false → (a ≡ false) × (b ≡ false)
neither false false none = (refl, refl)
neither false true none = let no : true ≡ false = none in cc
neither true b none = let no : true ≡ false = none in cc

-- A step that tells nothing leaves all as it is.
pub keeps_untold : (w : CounterWatcher) (before : List StepView) (t : StepView) → is_told t ≡ false → CountersKeep w before
    → CountersKeep w (before ++ t ∷ [])
keeps_untold w before t untold st =
    let parts = neither (clears t.token) (calls_by_numbers t) untold in
    one_more_counter w w before t st
    (rw parts.0 (sym (or-false w.begun)))
    (sym (ap (λ b. if b then opens_counting t else w.opened) untold))
    (sym (ap (λ b. if b then goes_on_counting t else w.going_on) untold))
    (rw parts.1 (sym (or-false w.ended)))

pub stays_untold : (edition : Edition) (w : CounterWatcher) (before : List StepView) (t : StepView) → is_told t ≡ false → CountersStandFor edition w before
    → CountersStandFor edition w (before ++ t ∷ [])
stays_untold edition w before t untold st =
    stand edition w (before ++ t ∷ []) st.is_on (λ has. keeps_untold w before t untold (st.kept has)) (off_goes_nowhere edition w before st)

-- A command that empties the stack, which is no call.
pub counters_at_command : (old new : CounterWatcher) (before : List StepView) (t : StepView) → is_callothersubr t.token ≡ false
    → clears t.token ≡ true → CountersKeep old before
    → new.begun ≡ true → new.opened ≡ sets_width t.token → new.going_on ≡ false → new.ended ≡ old.ended
    → CountersKeep new (before ++ t ∷ [])
counters_at_command old new before t no_call empties st begun opened going_on ended =
    one_more_counter old new before t st
    (begun ∙ rw empties (sym (always old.begun)))
    (opened ∙ rw (empties, no_call) (sym (or-false (sets_width t.token))))
    (going_on ∙ rw (empties, no_call) refl)
    (ended ∙ rw no_call (sym (or-false old.ended)))
  where
    always : (b : Bool) → (b || true) ≡ true
    always true = refl
    always false = refl

-- A call with two numbers or more, and one with fewer.
pub counters_at_call : (old new : CounterWatcher) (before : List StepView) (t : StepView) → IsCommand t Callothersubr
    → 2 ≤ length t.stack → CountersKeep old before
    → new.begun ≡ old.begun → new.opened ≡ is_counting t → new.going_on ≡ goes_on_counting t
    → new.ended ≡ (old.ended || ends_counting t)
    → CountersKeep new (before ++ t ∷ [])
counters_at_call old new before t call there st begun opened going_on ended =
    let two : nat_le 2 (length t.stack) ≡ true = le-leb 2 (length t.stack) there in
    let told : is_told t ≡ true = rw (call, two) refl in
    one_more_counter old new before t st
    (begun ∙ rw call (sym (or-false old.begun)))
    (opened ∙ sym (ap (λ b. if b then opens_counting t else old.opened) told ∙ rw call refl))
    (going_on ∙ sym (ap (λ b. if b then goes_on_counting t else old.going_on) told))
    ended

pub few_untold : (t : StepView) → IsCommand t Callothersubr → length t.stack < 2 → is_told t ≡ false
few_untold t call few =
    let two : nat_le 2 (length t.stack) ≡ false = grind (arith, few) in
    rw (call, two) refl

pub quiet_untold : (t : StepView) → is_callothersubr t.token ≡ false → clears t.token ≡ false → is_told t ≡ false
quiet_untold t no_call keeps = rw (no_call, keeps) refl

pub counted : (a b : Bool) (t : StepView) → a ≡ goes_on_counting t → b ≡ ends_counting t → (a || b) ≡ is_counting t
counted a b t goes_on ends = rw (goes_on, ends) refl

-- ---- what the rules say

-- The rules on a step where the edition has them, by what it and the steps before it are.
tests : (counting opened ended below told going_on calls begun : Bool) → ℕ → Bool
tests counting opened ended below told going_on calls begun n =
    broken_among
    ((O05, counting && not opened)
    ∷ (O06, counting && ended)
    ∷ (O07, counting && below)
    ∷ (O08, told && not counting && going_on)
    ∷ (W03, calls && not counting && not begun)
    ∷ [])
    n

by_tests : (edition : Edition) (w : CounterWatcher) (before : List StepView) (t : StepView) → has_later_rules edition ≡ true → CountersKeep w before → (n : ℕ)
    → breaks (counter_rules edition) n before t
    ≡ tests (is_counting t) w.opened w.ended (is_below (length t.stack - 2) (natural (from_top t.stack 1))) (is_told t) w.going_on (calls_by_numbers t) w.begun n
unfolding counter_rules tests
by_tests edition w before t has st n = rw (has, st.begun, st.opened, st.going_on, st.ended) refl

-- Where an edition hasn't these rules, none is broken.
pub no_counter_rule : (edition : Edition) (before : List StepView) (t : StepView) (n : ℕ) → has_later_rules edition ≡ false
    → breaks (counter_rules edition) n before t ≡ false
unfolding counter_rules
no_counter_rule edition before t n off = rw off refl

-- No rule is broken by a step that is no call, where counter control doesn't go on.
pub none_at_no_call : (edition : Edition) (before : List StepView) (t : StepView) → is_callothersubr t.token ≡ false
    → (has_later_rules edition && (clears t.token && last_told_is goes_on_counting before)) ≡ false → (n : ℕ)
    → breaks (counter_rules edition) n before t ≡ false
unfolding counter_rules
none_at_no_call edition before t no_call ended n =
    rw no_call (last (has_later_rules edition) (clears t.token) (last_told_is goes_on_counting before) ended)
  where
    last : (on told going_on : Bool) → (on && (told && going_on)) ≡ false
        → broken_among
        ((O05, on && false) ∷ (O06, on && false) ∷ (O07, on && false) ∷ (O08, on && ((told || false) && true && going_on)) ∷ (W03, on && false) ∷ [])
        n
        ≡ false
    last true true true e = let no : true ≡ false = e in cc
    last true true false e = refl
    last true false going_on e = refl
    last false told going_on e = refl

-- What is broken by a command that empties the stack.
pub at_command : (edition : Edition) (w : CounterWatcher) (before : List StepView) (t : StepView) → has_later_rules edition ≡ true → CountersKeep w before
    → is_callothersubr t.token ≡ false → (n : ℕ)
    → breaks (counter_rules edition) n before t ≡ broken_among ((O08, clears t.token && w.going_on) ∷ []) n
unfolding counter_rules
at_command edition w before t has st no_call n =
    rw (has, sym st.going_on, no_call) (last (clears t.token) w.going_on)
  where
    last : (told going_on : Bool) → broken_among
        ((O05, false) ∷ (O06, false) ∷ (O07, false) ∷ (O08, (told || false) && true && going_on) ∷ (W03, false) ∷ [])
        n
        ≡ broken_among ((O08, told && going_on) ∷ []) n
    last true going_on = refl
    last false going_on = refl

-- By counter control, and by another call.
pub at_counting : (edition : Edition) (w : CounterWatcher) (before : List StepView) (t : StepView) → has_later_rules edition ≡ true → CountersKeep w before
    → is_counting t ≡ true → (n : ℕ)
    → breaks (counter_rules edition) n before t
    ≡ broken_among
    ((O05, not w.opened) ∷ (O06, w.ended) ∷ (O07, is_below (length t.stack - 2) (natural (from_top t.stack 1))) ∷ [])
    n
unfolding tests
at_counting edition w before t has st counts n =
    by_tests edition w before t has st n
    ∙ last (is_counting t) w.opened w.ended (is_below (length t.stack - 2) (natural (from_top t.stack 1))) (is_told t) w.going_on (calls_by_numbers t) w.begun counts
  where
    last : (counting opened ended below told going_on calls begun : Bool) → counting ≡ true
        → tests counting opened ended below told going_on calls begun n ≡ broken_among ((O05, not opened) ∷ (O06, ended) ∷ (O07, below) ∷ []) n
    last counting opened ended below told going_on calls begun counts = rw (counts, and-false told, and-false calls) refl

pub at_other_call : (edition : Edition) (w : CounterWatcher) (before : List StepView) (t : StepView) → has_later_rules edition ≡ true → CountersKeep w before
    → IsCommand t Callothersubr → 2 ≤ length t.stack → is_counting t ≡ false → (n : ℕ)
    → breaks (counter_rules edition) n before t ≡ broken_among ((O08, w.going_on) ∷ (W03, not w.begun) ∷ []) n
unfolding tests
at_other_call edition w before t has st call there other n =
    let two : nat_le 2 (length t.stack) ≡ true = le-leb 2 (length t.stack) there in
    by_tests edition w before t has st n
    ∙ last (is_counting t) w.opened w.ended (is_below (length t.stack - 2) (natural (from_top t.stack 1))) (is_told t) w.going_on (calls_by_numbers t) w.begun
    other (rw (call, two) refl) (rw (call, two) refl)
  where
    last : (counting opened ended below told going_on calls begun : Bool) → counting ≡ false → told ≡ true → calls ≡ true
        → tests counting opened ended below told going_on calls begun n ≡ broken_among ((O08, going_on) ∷ (W03, not begun) ∷ []) n
    last counting opened ended below told going_on calls begun other tells is_call = rw (other, tells, is_call) refl

pub none_at_few : (edition : Edition) (before : List StepView) (t : StepView) → IsCommand t Callothersubr → length t.stack < 2 → (n : ℕ)
    → breaks (counter_rules edition) n before t ≡ false
unfolding counter_rules
none_at_few edition before t call few n =
    let two : nat_le 2 (length t.stack) ≡ false = grind (arith, few) in
    rw (call, two) (last (has_later_rules edition))
  where
    last : (on : Bool) → broken_among ((O05, on && false) ∷ (O06, on && false) ∷ (O07, on && false) ∷ (O08, on && false) ∷ (W03, on && false) ∷ []) n ≡ false
    last true = refl
    last false = refl
