-- The steps of a run, one after another.
use Rattle.std.proofs.Common.{◌≡◌, ℕ, zero, suc, ◌+◌, ◌-◌, ◌<◌, ◌≤◌, Bool, true, false, cond, nat_lt, Option, None, Some, List, [], ◌∷◌, drop, length, slice_get, take, refl, sym, ap, subst, ◌∙◌, arith}
use Rattle.std.proofs.lemmas.Bool.{ltb-true}
use Rattle.std.proofs.lemmas.Option.{slice_get_within}
use Rattle.t1_char.specs.declared.machine.Numbers.TheVariants.{Returned}
use Rattle.t1_char.specs.Asking.{IsAsked}
use Rattle.t1_char.specs.Editions.{limit_of}
use Rattle.t1_char.specs.Steps.{NumberedStep, StepView, steps_of}
use Rattle.t1_char.specs.Turns.{MachineView, TurnValue, answered, counted_after, ended, is_returned, limit_or_end, limited, step_of_number, step_or_end, turn_at}
use Rattle.t1_outline.proofs.Outlining.{IsOver, IsTold, same_steps}
use Rattle.t1_outline.specs.Private.Outlining.{steps_in}
use Rattle.t1_outline.specs.declared.pen.DrawnStep.{DrawnStep}
use Rattle.t1_picture.specs.Causes.{direction_among, direction_of, direction_of_step}
use Rattle.t1_picture.specs.Private.Runs.{AreAllSeen, IsDrawnNext, IsInHand, IsOfSameGlyph}

-- What is left of a list begins with what is at its place.
pub at_drop : (n : ℕ) (xs : List StepView) (y : StepView) (ys : List StepView) → drop n xs ≡ y ∷ ys → slice_get xs n ≡ Some y
at_drop zero xs y ys is = ap (λ (l : List StepView). slice_get l 0) is
at_drop (suc n) [] y ys is = absurd (omega (arith, ap length is))
at_drop (suc n) (x ∷ xs) y ys is = at_drop n xs y ys is

same_some : (x y : StepView) → Some x ≡ Some y → x ≡ y
same_some x y is = cc

-- The step that was reported is in hand.
pub in_hand_next : (old new : MachineView) → IsTold old new → IsInHand new
in_hand_next old new is step some get =
    let place : new.counted - 1 ≡ old.counted = omega (arith, is.counted) in
    let there : slice_get (steps_in old) old.counted ≡ Some new.step.step = at_drop old.counted (steps_in old) new.step.step _ is.ahead in
    let same : new.step.step ≡ step =
    same_some new.step.step step (sym there ∙ rw (same_steps old new is.same, place) at get) in
    let number : new.step.number ≡ new.counted = is.number ∙ sym is.counted in
    ap (λ (n : ℕ). step_of_number n new.step.step) number ∙ ap (step_of_number new.counted) same

-- Where there is none, none is in hand.
past_counted : (limit : ℕ) (steps : List StepView) (n : ℕ) → length (take limit steps) ≤ n → length (take limit steps) < counted_after limit steps n
past_counted limit steps n all = by_test (is_returned limit steps n) refl
  where
    by_test : (b : Bool) → is_returned limit steps n ≡ b → length (take limit steps) < cond b n (n + 1)
    by_test true told = omega (arith, ltb-true (answered limit steps) n told)
    by_test false not = omega (arith, all)

pub in_hand_over : (old new : MachineView) (answer : TurnValue) → IsOver old new → IsAsked Returned old new answer → IsInHand new
in_hand_over old new answer is asked step some get =
    let past : length (steps_in old) < new.counted =
    subst (λ (n : ℕ). length (steps_in old) < n)
    (sym (asked.counted ∙ ap (counted_after (limit_of old.edition) (steps_of old.font old.glyph)) (asked.returned refl)))
    (past_counted (limit_of old.edition) (steps_of old.font old.glyph) old.counted is.all) in
    let within : new.counted - 1 < length (steps_in old) =
    slice_get_within (steps_in old) (new.counted - 1) step (rw (same_steps old new is.same) at get) in
    absurd (omega (arith, past, within))

no_more : (limit : ℕ) (steps : List StepView) (n : ℕ) → counted_after limit steps n ≤ n + 1
no_more limit steps n = by_test (is_returned limit steps n)
  where
    by_test : (b : Bool) → cond b n (n + 1) ≤ n + 1
    by_test true = omega arith
    by_test false = omega arith

pub all_seen : (old new : MachineView) (answer : TurnValue) → IsOver old new → IsAsked Returned old new answer → AreAllSeen old new
all_seen old new answer is asked = record {
  all = is.all;
  more = is.more;
  most = subst (λ (n : ℕ). n ≤ old.counted + 1)
      (sym (asked.counted ∙ ap (counted_after (limit_of old.edition) (steps_of old.font old.glyph)) (asked.returned refl)))
      (no_more (limit_of old.edition) (steps_of old.font old.glyph) old.counted);
  past = subst (λ (n : ℕ). length (steps_in old) < n)
      (sym (asked.counted ∙ ap (counted_after (limit_of old.edition) (steps_of old.font old.glyph)) (asked.returned refl)))
      (past_counted (limit_of old.edition) (steps_of old.font old.glyph) old.counted is.all);
}

-- What the answer says of the steps after the limit.
last_turn : (limit : ℕ) (steps : List StepView) (n : ℕ) → length (take limit steps) ≤ n
    → turn_at limit steps n ≡ limit_or_end limit (slice_get steps limit)
last_turn limit steps n all = by_test (nat_lt n (answered limit steps)) refl
  where
    by_test : (b : Bool) → nat_lt n (answered limit steps) ≡ b → turn_at limit steps n ≡ limit_or_end limit (slice_get steps limit)
    by_test true less = absurd (omega (arith, all, ltb-true n (answered limit steps) less))
    by_test false not = ap (λ b. cond b (step_or_end n (slice_get steps n)) (limit_or_end limit (slice_get steps limit))) not

abbrev is_end : TurnValue → Bool
is_end ended = true
is_end _ = false

pub none_past : (xs : List StepView) (n : ℕ) → slice_get xs n ≡ None → length xs ≤ n
none_past [] n is = omega arith
none_past (x ∷ xs) zero is = cc
none_past (x ∷ xs) (suc n) is = omega (arith, none_past xs n is)

ended_short : (limit : ℕ) (steps : List StepView) (o : Option StepView) → slice_get steps limit ≡ o → ended ≡ limit_or_end limit o → length steps ≤ limit
ended_short limit steps None is end = none_past steps limit is
ended_short limit steps (Some step) is end = cc

limited_long : (limit : ℕ) (steps : List StepView) (step : NumberedStep) (o : Option StepView) → slice_get steps limit ≡ o
    → limited step ≡ limit_or_end limit o → limit < length steps
limited_long limit steps step None is past = cc
limited_long limit steps step (Some next) is past = slice_get_within steps limit next is

pub ends_within : (old new : MachineView) → IsOver old new → IsAsked Returned old new ended → length (steps_of old.font old.glyph) ≤ limit_of old.edition
ends_within old new is asked =
    let limit = limit_of old.edition in
    let steps = steps_of old.font old.glyph in
    ended_short limit steps (slice_get steps limit) refl
    (asked.turn ∙ ap (turn_at limit steps) (asked.returned refl) ∙ last_turn limit steps old.counted is.all)

pub goes_past : (old new : MachineView) (step : NumberedStep) → IsOver old new → IsAsked Returned old new (limited step)
    → limit_of old.edition < length (steps_of old.font old.glyph)
goes_past old new step is asked =
    let limit = limit_of old.edition in
    let steps = steps_of old.font old.glyph in
    limited_long limit steps step (slice_get steps limit) refl
    (asked.turn ∙ ap (turn_at limit steps) (asked.returned refl) ∙ last_turn limit steps old.counted is.all)

-- ---- directions

pub same_steps_in : (old new : MachineView) → IsOfSameGlyph old new → steps_in new ≡ steps_in old
same_steps_in old new same = rw (same.font, same.glyph, same.edition) refl

pub direction_next : (old new : MachineView) (next : DrawnStep) → IsOfSameGlyph old new → IsDrawnNext old new next
    → direction_of new.step.step.token ≡ direction_among (steps_in new) new.counted
direction_next old new next same is =
    let counted : new.counted ≡ suc old.counted = omega (arith, is.counted) in
    let there : slice_get (steps_in new) old.counted ≡ Some new.step.step =
    ap (λ (ss : List StepView). slice_get ss old.counted) (same_steps_in old new same) ∙ at_drop old.counted (steps_in old) new.step.step _ is.ahead in
    sym (ap (direction_among (steps_in new)) counted ∙ ap direction_of_step there)

none_there : (xs : List StepView) (n : ℕ) → length xs ≤ n → slice_get xs n ≡ None
none_there [] n past = refl
none_there (x ∷ xs) zero past = absurd (omega (arith, past))
none_there (x ∷ xs) (suc n) past = none_there xs n (omega (arith, past))

pub direction_past : (steps : List StepView) (n : ℕ) → length steps < n → None ≡ direction_among steps n
direction_past steps zero past = refl
direction_past steps (suc n) past = sym (ap direction_of_step (none_there steps n (omega (arith, past))))
