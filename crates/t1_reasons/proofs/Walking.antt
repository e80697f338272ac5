-- A machine that goes on by one step, and what is kept of the steps before the step in hand.
use Rattle.std.proofs.Common.{◌≡◌, ℕ, zero, suc, ◌+◌, ◌-◌, ◌<◌, ◌≤◌, ◌==◌, ◌&&◌, ◌||◌, nat_lt, cond, if◌then◌else◌, Bool, true, false, Option, None, Some, List, [], ◌∷◌, ◌++◌, get_or, length, length-take, slice_get, take, take_all, refl, sym, ap, ◌∙◌, arith}
use Rattle.std.proofs.Common.{lt-ltb}
use Rattle.std.proofs.Math.Bool.{and-false, or-false}
use Rattle.std.proofs.lemmas.Bool.{eqb-true, ltb-false, ltb-true}
use Rattle.std.proofs.lemmas.List.{get_or-take}
use Rattle.std.proofs.lemmas.Option.{get_or_from_slice_get, slice_get_within}
use Rattle.t1_char.specs.declared.edition.Edition.{Edition}
use Rattle.t1_char.proofs.EditionLemmas.{limit_few}
use Rattle.t1_char.specs.declared.machine.Answer.{Answer}
use Rattle.t1_char.specs.declared.machine.Answer.TheVariants.{Step, Ended, Limit}
use Rattle.t1_char.specs.declared.machine.Numbers.TheVariants.{Returned}
use Rattle.t1_char.specs.AnswerViews.{answer_view}
use Rattle.t1_char.specs.Asking.{IsAsked}
use Rattle.t1_char.specs.Editions.{has_latest_rules, limit_of}
use Rattle.t1_char.specs.Steps.{NumberedStep, StepView, steps_of}
use Rattle.t1_char.specs.Turns.{MachineView, answered, counted_after, ended, is_returned, limit_or_end, limited, step_of_number, step_or_end, stepped, turn_at}
use Rattle.t1_char.proofs.TurnsTaken.{IsStepped, answered_over, stepped_is}
use Rattle.t1_font.specs.Fonts.{FontValue}
use Rattle.t1_drawing.specs.declared.font_box.FontBox.{FontBox}
use Rattle.t1_drawing.specs.declared.glyph.DrawingWatcher.{DrawingWatcher}
use Rattle.t1_drawing.specs.declared.segments.TracedSegment.{TracedSegment}
use Rattle.t1_drawing.specs.Drawings.{traced}
use Rattle.t1_drawing.specs.DrawingRules.{box_of, breaks_own, drawing_rules}
use Rattle.t1_drawing.specs.Private.Standing.{BothStandFor, LatestDrawingStandsFor}
use Rattle.t1_drawing.specs.Strokes.{segments_of}
use Rattle.t1_outline.specs.Outlines.{drawn as drawn_by}
use Rattle.t1_drawing.proofs.RuleNumbers.{drawing_rules_come_last}
use Rattle.t1_rules.specs.Watches.{most_steps}
use Rattle.t1_rules.specs.declared.mask.Mask.{Mask}
use Rattle.t1_rules.specs.declared.rule.Rule.{Rule}
use Rattle.t1_rules.specs.declared.sidebearings.Component.{Component}
use Rattle.t1_rules.specs.declared.watches.Watches.{Watches}
use Rattle.t1_rules.specs.Components.{components_of}
use Rattle.t1_rules.specs.Private.Standing.{WatchesStandFor}
use Rattle.t1_rules.specs.Book.{number_of}
use Rattle.t1_rules.specs.Mask.{has}
use Rattle.t1_rules.specs.Book.{last_number_of_third}
use Rattle.t1_rules.specs.StepRules.{StepRule, argument_rules, breaks, call_rules, charstring_rules, component_rules, counter_rules, flex_rules, othersubr_rules, path_rules, seac_rules, stem_rules, step_rules, triple_rules}
use Rattle.t1_rules.proofs.Lemmas.StepRules.{number_between, numbers_between}
use Rattle.t1_reasons.specs.declared.steps_before.StepsBefore.{StepsBefore}
use Rattle.t1_reasons.specs.GlyphReasons.{GoesTo, IsAnswer, IsBegun, IsInHand, IsOfSameGlyph, IsWatched, is_step, limit_reason, next_reason, reason_among, reason_at, reason_at_place, steps_in, told_reason}
use Rattle.t1_reasons.specs.Standing.{StepsStandFor}

pub few_steps : (m : MachineView) (n : ℕ) → length (take n (steps_in m)) < most_steps
few_steps m n = omega (arith, length-take n (steps_in m), length-take (limit_of m.edition) (steps_of m.font m.glyph), limit_few m.edition)

pub same_steps : (old new : MachineView) → IsOfSameGlyph old new → steps_in new ≡ steps_in old
same_steps old new same = rw (same.font, same.glyph, same.edition) refl

-- The element of a place is the last of those up to it.
taken : (n : ℕ) (xs : List StepView) (x : StepView) → slice_get xs n ≡ Some x → take (suc n) xs ≡ take n xs ++ x ∷ []
taken zero [] x is = let no : None ≡ Some x = is in cc
taken zero (y ∷ ys) x is = let same : y ≡ x = cc in rw same refl
taken (suc n) [] x is = let no : None ≡ Some x = is in cc
taken (suc n) (y ∷ ys) x is = ap (λ zs. y ∷ zs) (taken n ys x is)

there_is : (n : ℕ) (xs : List StepView) → n < length xs → (x : StepView) × (slice_get xs n ≡ Some x)
there_is n [] less = absurd (omega arith)
there_is zero (y ∷ ys) less = (y, refl)
there_is (suc n) (y ∷ ys) less = there_is n ys (omega arith)

none_there : (n : ℕ) (xs : List StepView) → length xs ≤ n → slice_get xs n ≡ None
none_there n [] past = refl
none_there zero (y ∷ ys) past = absurd (omega arith)
none_there (suc n) (y ∷ ys) past = none_there n ys (omega arith)

-- The steps up to the step in hand.
pub seen_on : (m : MachineView) → 0 < m.counted → m.counted ≤ length (steps_in m) → IsInHand m
    → take m.counted (steps_in m) ≡ take (m.counted - 1) (steps_in m) ++ m.step.step ∷ []
seen_on m some few hand =
    let found = there_is (m.counted - 1) (steps_in m) (omega arith) in
    let more : suc (m.counted - 1) ≡ m.counted = omega arith in
    let step : m.step ≡ step_of_number m.counted found.0 = hand found.0 some found.1 in
    let same : m.step.step ≡ found.0 = ap (λ s. s.step) step in
    rw same (ap (λ (n : ℕ). take n (steps_in m)) (sym more) ∙ taken (m.counted - 1) (steps_in m) found.0 found.1)

-- ---- the next step

-- The machine answered the next step.
pub record IsTold (old new : MachineView) : Type 0 where
  pub counted : new.counted ≡ old.counted + 1
  pub within : new.counted ≤ length (steps_in new)
  pub in_hand : IsInHand new
  pub before : take (new.counted - 1) (steps_in new) ≡ take old.counted (steps_in old)

pub told : (old new : MachineView) → IsOfSameGlyph old new → IsAsked Returned old new (stepped new.step) → IsTold old new
told old new same asked =
    let steps = steps_of old.font old.glyph in
    let limit = limit_of old.edition in
    let at : asked.before ≡ old.counted = asked.returned refl in
    let next : IsStepped limit steps old.counted new.step = stepped_is limit steps old.counted new.step (asked.turn ∙ ap (turn_at limit steps) at) in
    let counted : new.counted ≡ old.counted + 1 = asked.counted ∙ ap (counted_after limit steps) at ∙ next.counted in
    let place : new.counted - 1 ≡ old.counted = omega (arith, counted) in
    let below : old.counted < limit = omega (arith, next.within, length-take limit steps) in
    let there : get_or (steps_in old) old.counted new.step.step ≡ new.step.step =
    get_or-take limit steps old.counted new.step.step below ∙ get_or_from_slice_get steps old.counted new.step.step new.step.step next.there in
    let found = there_is old.counted (steps_in old) next.within in
    let own : found.0 ≡ new.step.step = sym (get_or_from_slice_get (steps_in old) old.counted found.0 new.step.step found.1) ∙ there in
    record {
      counted = counted;
      within = rw (same_steps old new same) (omega (arith, counted, next.within));
      in_hand = λ step some get.
          let here : slice_get (steps_in old) old.counted ≡ Some step = rw (same_steps old new same, place) at get in
          let alike : Some found.0 ≡ Some step = sym found.1 ∙ here in
          let is : new.step.step ≡ step = sym own ∙ cc in
          let number : new.step.number ≡ new.counted = next.number ∙ sym counted in
          ap (λ (n : ℕ). step_of_number n new.step.step) number ∙ ap (step_of_number new.counted) is;
      before = rw (same_steps old new same, place) refl;
    }

pub step_watched : (old new : MachineView) (kept : StepsBefore) (watches seen : Watches) (drawing drawn : DrawingWatcher) (draws : Bool) (broken : Mask)
    (segments : List TracedSegment) → IsOfSameGlyph old new → IsAsked Returned old new (stepped new.step)
    → StepsStandFor old.edition kept (take old.counted (steps_in old))
    → BothStandFor old.edition (box_of old.font) draws watches drawing (take old.counted (steps_in old))
    → ((edition : Edition) (before : List StepView) → WatchesStandFor edition watches before → length before < most_steps
    → WatchesStandFor edition seen (before ++ new.step.step ∷ []))
    → ((edition : Edition) (box : Option FontBox) (before : List StepView) → BothStandFor edition box draws watches drawing before → length before < most_steps
    → LatestDrawingStandsFor edition box drawn (before ++ new.step.step ∷ []))
    → ((edition : Edition) (box : Option FontBox) (before : List StepView) → BothStandFor edition box draws watches drawing before → length before < most_steps
    → (n : ℕ) → has broken n ≡ breaks_own edition box n before new.step.step)
    → ((edition : Edition) (box : Option FontBox) (before : List StepView) → BothStandFor edition box draws watches drawing before → length before < most_steps
    → has_latest_rules edition ≡ true → segments ≡ traced box (segments_of before) (drawn_by before new.step.step))
    → IsWatched new kept seen drawn broken segments Step
step_watched old new kept watches seen drawing drawn draws broken segments same asked stands both more draws_on breaks traces =
    let is = told old new same asked in
    let before = take old.counted (steps_in old) in
    let some : 0 < new.counted = omega (arith, is.counted) in
    let now : take new.counted (steps_in new) ≡ before ++ new.step.step ∷ [] = seen_on new some is.within is.in_hand ∙ ap (λ steps. steps ++ new.step.step ∷ []) is.before in
    record {
      in_hand = is.in_hand;
      kept = rw (is.before, same.edition) stands;
      watches = rw (now, same.edition) (more old.edition before both.watched (few_steps old old.counted));
      drawn = rw (now, same.edition, same.font) (draws_on old.edition (box_of old.font) before both (few_steps old old.counted));
      broken = λ few within. rw (is.before, same.edition, same.font) (breaks old.edition (box_of old.font) before both (few_steps old old.counted));
      segments = λ latest few within.
          rw (is.before, same.font) (traces old.edition (box_of old.font) before both (few_steps old old.counted) (rw same.edition at latest));
      answer = is.within;
    }

-- ---- past all steps

-- What the answer says of the steps after the limit.
last_turn : (limit : ℕ) (steps : List StepView) (n : ℕ) → length (take limit steps) ≤ n
    → turn_at limit steps n ≡ limit_or_end limit (slice_get steps limit)
last_turn limit steps n all = by_test (nat_lt n (answered limit steps)) refl
  where
    by_test : (b : Bool) → nat_lt n (answered limit steps) ≡ b → turn_at limit steps n ≡ limit_or_end limit (slice_get steps limit)
    by_test true less = absurd (omega (arith, all, ltb-true n (answered limit steps) less))
    by_test false not = ap (λ b. cond b (step_or_end n (slice_get steps n)) (limit_or_end limit (slice_get steps limit))) not

once_more : (limit : ℕ) (steps : List StepView) (n : ℕ) → n ≤ length (take limit steps) → counted_after limit steps n ≡ n + 1
once_more limit steps n few = by_test (is_returned limit steps n) refl
  where
    by_test : (b : Bool) → is_returned limit steps n ≡ b → cond b n (n + 1) ≡ n + 1
    by_test true told = absurd (omega (arith, few, ltb-true (answered limit steps) n told))
    by_test false not = refl

ended_short : (limit : ℕ) (steps : List StepView) (o : Option StepView) → slice_get steps limit ≡ o → ended ≡ limit_or_end limit o → length steps ≤ limit
ended_short limit steps None is end = none_past steps limit is
  where
    none_past : (xs : List StepView) (n : ℕ) → slice_get xs n ≡ None → length xs ≤ n
    none_past [] n is = omega arith
    none_past (x ∷ xs) zero is = cc
    none_past (x ∷ xs) (suc n) is = omega (arith, none_past xs n is)
ended_short limit steps (Some step) is end = cc

limited_long : (limit : ℕ) (steps : List StepView) (step : NumberedStep) (o : Option StepView) → slice_get steps limit ≡ o
    → limited step ≡ limit_or_end limit o → limit < length steps
limited_long limit steps step None is past = cc
limited_long limit steps step (Some next) is past = slice_get_within steps limit next is

-- It answered that there is no step.
pub record IsOver (old new : MachineView) : Type 0 where
  pub all : old.counted ≡ length (steps_in old)
  pub counted : new.counted ≡ length (steps_in old) + 1

pub over : (old new : MachineView) (answer : Answer) → old.counted ≤ length (steps_in old) → (answer ≡ Step → ⊥)
    → IsAsked Returned old new (answer_view answer new.step) → IsOver old new
over old new answer few other asked =
    let steps = steps_of old.font old.glyph in
    let limit = limit_of old.edition in
    let at : asked.before ≡ old.counted = asked.returned refl in
    let whole : take old.counted (steps_in old) ≡ steps_in old =
    answered_over limit steps old.counted answer new.step other (asked.turn ∙ ap (turn_at limit steps) at) in
    let all : old.counted ≡ length (steps_in old) = omega (arith, few, ap length whole, length-take old.counted (steps_in old)) in
    record {
      all = all;
      counted = asked.counted ∙ ap (counted_after limit steps) at ∙ once_more limit steps old.counted few ∙ ap (λ (n : ℕ). n + 1) all;
    }

over_answer : (old new : MachineView) (answer : Answer) → IsOfSameGlyph old new → IsOver old new → (answer ≡ Step → ⊥)
    → IsAsked Returned old new (answer_view answer new.step) → IsAnswer answer new
over_answer old new Step same is other asked = absurd (other refl)
over_answer old new Ended same is other asked =
    let limit = limit_of old.edition in
    let steps = steps_of old.font old.glyph in
    let turn : ended ≡ limit_or_end limit (slice_get steps limit) =
    asked.turn ∙ ap (turn_at limit steps) (asked.returned refl) ∙ last_turn limit steps old.counted (omega (arith, is.all)) in (
      rw (same_steps old new same) is.counted,
      rw (same.font, same.glyph, same.edition) (ended_short limit steps (slice_get steps limit) refl turn),
    )
over_answer old new Limit same is other asked =
    let limit = limit_of old.edition in
    let steps = steps_of old.font old.glyph in
    let turn : limited new.step ≡ limit_or_end limit (slice_get steps limit) =
    asked.turn ∙ ap (turn_at limit steps) (asked.returned refl) ∙ last_turn limit steps old.counted (omega (arith, is.all)) in (
      rw (same_steps old new same) is.counted,
      rw (same.font, same.glyph, same.edition) (limited_long limit steps new.step (slice_get steps limit) refl turn),
    )

pub over_watched : (old new : MachineView) (kept : StepsBefore) (watches : Watches) (drawing : DrawingWatcher) (broken : Mask)
    (segments : List TracedSegment) (answer : Answer) → IsOfSameGlyph old new
    → old.counted ≤ length (steps_in old) → (answer ≡ Step → ⊥) → IsAsked Returned old new (answer_view answer new.step)
    → StepsStandFor old.edition kept (take old.counted (steps_in old))
    → WatchesStandFor old.edition watches (take old.counted (steps_in old))
    → LatestDrawingStandsFor old.edition (box_of old.font) drawing (take old.counted (steps_in old))
    → IsWatched new kept watches drawing broken segments answer
over_watched old new kept watches drawing broken segments answer same few other asked stands watched drawn =
    let is = over old new answer few other asked in
    let steps : steps_in new ≡ steps_in old = same_steps old new same in
    let place : new.counted - 1 ≡ old.counted = omega (arith, is.counted, is.all) in
    let past : length (steps_in old) ≤ new.counted = omega (arith, is.counted) in
    let whole : take new.counted (steps_in new) ≡ take old.counted (steps_in old) =
    ap (take new.counted) steps ∙ take_all new.counted (steps_in old) past ∙ sym (take_all old.counted (steps_in old) (omega (arith, is.all))) in
    record {
      in_hand = λ step some get.
          let none : slice_get (steps_in old) old.counted ≡ None = none_there old.counted (steps_in old) (omega (arith, is.all)) in
          let here : slice_get (steps_in old) old.counted ≡ Some step = rw (steps, place) at get in
          let no : None ≡ Some step = sym none ∙ here in cc;
      kept = rw (steps, place, same.edition) stands;
      watches = rw (whole, same.edition) watched;
      drawn = rw (whole, same.edition, same.font) drawn;
      broken = λ some within.
          let none : new.counted ≤ length (steps_in old) = rw steps at within in
          absurd (omega (arith, none, is.counted));
      segments = λ latest some within.
          let none : new.counted ≤ length (steps_in old) = rw steps at within in
          absurd (omega (arith, none, is.counted));
      answer = over_answer old new answer same is other asked;
    }

-- An answer that is no step comes just past the steps.
pub past_by_one : (m : MachineView) (answer : Answer) → is_step answer ≡ false → IsAnswer answer m → m.counted ≡ length (steps_in m) + 1
past_by_one m Step other is = let same : true ≡ false = other in cc
past_by_one m Ended other is = is.0
past_by_one m Limit other is = is.0

pub no_step : (answer : Answer) → is_step answer ≡ false → answer ≡ Step → ⊥
no_step Step other is = let same : true ≡ false = other in cc
no_step Ended other is = cc
no_step Limit other is = cc

pub a_step : (answer : Answer) → is_step answer ≡ true → answer ≡ Step
a_step Step is = refl
a_step Ended is = let no : false ≡ true = is in cc
a_step Limit is = let no : false ≡ true = is in cc

pub within_steps : (m : MachineView) (answer : Answer) → is_step answer ≡ true → IsAnswer answer m → m.counted ≤ length (steps_in m)
within_steps m Step is here = here
within_steps m Ended is here = let no : false ≡ true = is in cc
within_steps m Limit is here = let no : false ≡ true = is in cc

-- ---- reasons by number

got_below : (limit place : ℕ) (steps : List StepView) → place < limit → slice_get (take limit steps) place ≡ slice_get steps place
got_below zero place steps less = absurd (omega arith)
got_below (suc limit) place [] less = refl
got_below (suc limit) zero (s ∷ ss) less = refl
got_below (suc limit) (suc place) (s ∷ ss) less = got_below limit place ss (omega arith)

before_below : (limit place : ℕ) (steps : List StepView) → place < limit → take place (take limit steps) ≡ take place steps
before_below zero place steps less = absurd (omega arith)
before_below (suc limit) zero steps less = refl
before_below (suc limit) (suc place) [] less = refl
before_below (suc limit) (suc place) (s ∷ ss) less = ap (λ xs. s ∷ xs) (before_below limit place ss (omega arith))

among_below : (limit : ℕ) (font : FontValue) (glyph : ℕ) (edition : Edition) (components : List Component) (rule : Rule) (steps : List StepView) (place : ℕ) → place < limit
    → reason_among limit font glyph edition components rule steps place ≡ reason_at_place font glyph edition components rule (take limit steps) place
among_below limit font glyph edition components rule steps place less =
    rw (lt-ltb place limit less, got_below limit place steps less, before_below limit place steps less) refl

none_among : (limit : ℕ) (font : FontValue) (glyph : ℕ) (edition : Edition) (components : List Component) (rule : Rule) (steps : List StepView) (place : ℕ)
    → length (take limit steps) ≤ place → (place ≡ limit → length steps ≤ limit) → reason_among limit font glyph edition components rule steps place ≡ None
none_among limit font glyph edition components rule steps place past short = go (nat_lt place limit) refl
  where
    none_at : (b : Bool) → (place == limit) ≡ b → (c : Bool) → nat_lt place (length steps) ≡ c
        → (if b && c then limit_reason limit rule else None) ≡ None
    none_at false is c less = refl
    none_at true is false less = refl
    none_at true is true less =
        let at : place ≡ limit = eqb-true place limit is in
        absurd (omega (arith, at, short at, ltb-true place (length steps) less))

    go : (b : Bool) → nat_lt place limit ≡ b
        → (if b then reason_at_place font glyph edition components rule steps place
        else (if place == limit && nat_lt place (length steps) then limit_reason limit rule else None)) ≡ None
    go true is =
        let none : slice_get steps place ≡ None =
        none_there place steps (omega (arith, past, length-take limit steps, ltb-true place limit is)) in
        ap (next_reason font glyph edition components rule (take place steps)) none
    go false is = none_at (place == limit) refl (nat_lt place (length steps)) refl

limit_among : (limit : ℕ) (font : FontValue) (glyph : ℕ) (edition : Edition) (components : List Component) (rule : Rule) (steps : List StepView) (place : ℕ)
    → place ≡ limit → limit < length steps → reason_among limit font glyph edition components rule steps place ≡ limit_reason limit rule
limit_among limit font glyph edition components rule steps place at long =
    ap (reason_among limit font glyph edition components rule steps) at ∙ go (nat_lt limit limit) refl (limit == limit) refl (nat_lt limit (length steps)) refl
  where
    go : (a : Bool) → nat_lt limit limit ≡ a → (b : Bool) → (limit == limit) ≡ b → (c : Bool) → nat_lt limit (length steps) ≡ c
        → (if a then reason_at_place font glyph edition components rule steps limit else (if b && c then limit_reason limit rule else None))
        ≡ limit_reason limit rule
    go true less b same c more = absurd (omega (arith, ltb-true limit limit less))
    go false less false same c more = let no : (limit == limit) ≡ true = grind arith in cc
    go false less true same false more = absurd (omega (arith, long, ltb-false limit (length steps) more))
    go false less true same true more = refl

-- The reason of the step in hand.
pub reason_in_hand : (m : MachineView) (rule : Rule) → 0 < m.counted → m.counted ≤ length (steps_in m) → IsInHand m
    → reason_at m rule m.counted
    ≡ told_reason m.font m.glyph m.edition (components_of (limit_of m.edition) m.font) rule (take (m.counted - 1) (steps_in m)) m.step.step
reason_in_hand m rule some few hand =
    let place = m.counted - 1 in
    let number : m.counted ≡ suc place = omega arith in
    let found = there_is place (steps_in m) (omega arith) in
    let there : slice_get (steps_in m) place ≡ Some found.0 = found.1 in
    let step : m.step ≡ step_of_number m.counted found.0 = hand found.0 some found.1 in
    let same : m.step.step ≡ found.0 = ap (λ s. s.step) step in
    let below : place < limit_of m.edition = omega (arith, few, length-take (limit_of m.edition) (steps_of m.font m.glyph)) in
    let components = components_of (limit_of m.edition) m.font in
    ap (reason_at m rule) number
    ∙ among_below (limit_of m.edition) m.font m.glyph m.edition components rule (steps_of m.font m.glyph) place below
    ∙ ap (next_reason m.font m.glyph m.edition components rule (take place (steps_in m))) there
    ∙ ap (told_reason m.font m.glyph m.edition components rule (take place (steps_in m))) (sym same)

-- Past the steps there is none.
pub no_reason_past : (m : MachineView) (rule : Rule) (number : ℕ) → length (steps_in m) + 1 < number → reason_at m rule number ≡ None
no_reason_past m rule zero past = absurd (omega arith)
no_reason_past m rule (suc place) past =
    none_among (limit_of m.edition) m.font m.glyph m.edition (components_of (limit_of m.edition) m.font) rule (steps_of m.font m.glyph) place (omega arith)
    (λ at. omega (arith, past, at, length-take (limit_of m.edition) (steps_of m.font m.glyph)))

pub no_reason_at_the_end : (m : MachineView) (rule : Rule) (number : ℕ) → number ≡ length (steps_in m) + 1
    → length (steps_of m.font m.glyph) ≤ limit_of m.edition → reason_at m rule number ≡ None
no_reason_at_the_end m rule zero past short = absurd (omega arith)
no_reason_at_the_end m rule (suc place) past short =
    none_among (limit_of m.edition) m.font m.glyph m.edition (components_of (limit_of m.edition) m.font) rule (steps_of m.font m.glyph) place (omega arith) (λ at. short)

pub reason_past_the_limit : (m : MachineView) (rule : Rule) (number : ℕ) → number ≡ length (steps_in m) + 1
    → limit_of m.edition < length (steps_of m.font m.glyph) → reason_at m rule number ≡ limit_reason (limit_of m.edition) rule
reason_past_the_limit m rule zero past long = absurd (omega arith)
reason_past_the_limit m rule (suc place) past long =
    limit_among (limit_of m.edition) m.font m.glyph m.edition (components_of (limit_of m.edition) m.font) rule (steps_of m.font m.glyph) place
    (omega (arith, past, long, length-take (limit_of m.edition) (steps_of m.font m.glyph))) long

pub same_reason : (old new : MachineView) (rule : Rule) (number : ℕ) → IsOfSameGlyph old new → reason_at new rule number ≡ reason_at old rule number
same_reason old new rule zero same = refl
same_reason old new rule (suc place) same = rw (same.font, same.glyph, same.edition) refl

pub same_of_same : (a b c : MachineView) → IsOfSameGlyph a b → IsOfSameGlyph b c → IsOfSameGlyph a c
same_of_same a b c one two = record { font = two.font ∙ one.font; glyph = two.glyph ∙ one.glyph; edition = two.edition ∙ one.edition }

pub begun_on : (old new : MachineView) (font : FontValue) (glyph : ℕ) (edition : Edition) → IsOfSameGlyph old new
    → IsBegun old font glyph edition → IsBegun new font glyph edition
begun_on old new font glyph edition same begun = record {
  font_is = same.font ∙ begun.font_is;
  glyph_is = same.glyph ∙ begun.glyph_is;
  edition_is = same.edition ∙ begun.edition_is;
  there = rw same.font begun.there;
}

-- ---- the rules of a glyph's own steps and those on components

joined : (xs ys : List StepRule) (n : ℕ) (before : List StepView) (step : StepView)
    → breaks (xs ++ ys) n before step ≡ (breaks xs n before step || breaks ys n before step)
joined [] ys n before step = refl
joined (x ∷ xs) ys n before step =
    ap (λ b. x.is_broken before step && number_of x.rule == n || b) (joined xs ys n before step)
    ∙ or_assoc (x.is_broken before step && number_of x.rule == n) (breaks xs n before step) (breaks ys n before step)
  where
    or_assoc : (a b c : Bool) → (a || (b || c)) ≡ ((a || b) || c)
    or_assoc true b c = refl
    or_assoc false b c = refl

-- They come before those on the drawing.
none_past : (rules : List StepRule) → numbers_between 26 last_number_of_third rules ≡ true → (n : ℕ) (before : List StepView) (step : StepView)
    → last_number_of_third < n → breaks rules n before step ≡ false
none_past rules within n before step past = go (breaks rules n before step) refl
  where
    go : (b : Bool) → breaks rules n before step ≡ b → b ≡ false
    go false is = refl
    go true is = absurd (omega (arith, past, (number_between 26 last_number_of_third rules within n before step is).1))

charstrings_between : (edition : Edition) (components : List Component) → numbers_between 26 last_number_of_third (charstring_rules edition components) ≡ true
unfolding charstring_rules step_rules argument_rules call_rules path_rules stem_rules flex_rules othersubr_rules seac_rules triple_rules counter_rules component_rules
charstrings_between edition components = refl

steps_between : (edition : Edition) → numbers_between 26 last_number_of_third (step_rules edition) ≡ true
unfolding step_rules argument_rules call_rules path_rules stem_rules flex_rules othersubr_rules seac_rules triple_rules counter_rules
steps_between edition = refl

pub none_on_charstrings : (edition : Edition) (components : List Component) (n : ℕ) (before : List StepView) (step : StepView) → last_number_of_third < n
    → breaks (charstring_rules edition components) n before step ≡ false
none_on_charstrings edition components = none_past (charstring_rules edition components) (charstrings_between edition components)

pub drawing_alone : (edition : Edition) (box : Option FontBox) (n : ℕ) (before : List StepView) (step : StepView) → last_number_of_third < n
    → breaks_own edition box n before step ≡ (has_latest_rules edition && breaks (drawing_rules box) n before step)
drawing_alone edition box n before step past = rw (none_past (step_rules edition) (steps_between edition) n before step past) refl

pub none_on_drawing : (box : Option FontBox) (n : ℕ) (before : List StepView) (step : StepView) → n ≤ last_number_of_third
    → breaks (drawing_rules box) n before step ≡ false
none_on_drawing box n before step few = go (breaks (drawing_rules box) n before step) refl
  where
    go : (b : Bool) → breaks (drawing_rules box) n before step ≡ b → b ≡ false
    go false is = refl
    go true is = absurd (omega (arith, few, (drawing_rules_come_last box n before step is).0))

pub both_kinds : (edition : Edition) (components : List Component) (box : Option FontBox) (own other both : Mask) (before : List StepView) (step : StepView) (n : ℕ)
    → n ≤ last_number_of_third → has both n ≡ (has own n || has other n)
    → has own n ≡ breaks_own edition box n before step → has other n ≡ breaks (component_rules components) n before step
    → has both n ≡ breaks (charstring_rules edition components) n before step
unfolding charstring_rules
both_kinds edition components box own other both before step n few is by_own by_other =
    is
    ∙ rw (
      by_own,
      by_other,
      none_on_drawing box n before step few,
      and-false (has_latest_rules edition),
      or-false (breaks (step_rules edition) n before step),
    ) (sym (joined (step_rules edition) (component_rules components) n before step))

-- ---- a second run

-- The second run is at the step after so many.
pub record IsOneOn (old new : MachineView) (seen : ℕ) : Type 0 where
  pub same : IsOfSameGlyph old new
  pub steps : steps_in new ≡ steps_in old
  pub counted : new.counted ≡ seen + 1
  pub place : new.counted - 1 ≡ seen

pub one_on : (old here new : MachineView) (seen : ℕ) → IsOfSameGlyph old here → GoesTo here new (seen + 1) → seen < old.counted
    → old.counted ≤ length (steps_in old) → IsOneOn old new seen
one_on old here new seen same goes less few =
    let both : IsOfSameGlyph old new = same_of_same old here new same goes.same in
    let steps : steps_in here ≡ steps_in old = same_steps old here same in
    let within : seen + 1 ≤ length (steps_in here) + 1 = rw steps (omega (arith, less, few)) in
    let counted : new.counted ≡ seen + 1 = goes.counted within in
    record { same = both; steps = same_steps old new both; counted = counted; place = omega (arith, counted) }
