-- What an outline has still to return, one segment and one step further.
use Rattle.std.proofs.Common.{◌≡◌, ℕ, ◌+◌, ◌<◌, ◌≤◌, if◌then◌else◌, Bool, true, false, get_or, List, [], ◌∷◌, ◌++◌, length, length-take, take, drop, take_all, refl, sym, ap, ◌∙◌, arith}
use Rattle.std.proofs.lemmas.List.{drop_all, drop_more, get_or-take}
use Rattle.std.proofs.lemmas.Option.{get_or_from_slice_get}
use Rattle.t1_char.proofs.EditionLemmas.{limit_few}
use Rattle.t1_char.specs.declared.machine.Answer.{Answer}
use Rattle.t1_char.specs.declared.machine.Answer.TheVariants.{Step}
use Rattle.t1_char.specs.declared.machine.Numbers.TheVariants.{Returned}
use Rattle.t1_char.specs.AnswerViews.{answer_view}
use Rattle.t1_char.specs.Asking.{IsAsked}
use Rattle.t1_char.specs.Editions.{limit_of}
use Rattle.t1_char.specs.Steps.{StepView, steps_of}
use Rattle.t1_char.specs.Turns.{MachineView, counted_after, is_returned, stepped, turn_at}
use Rattle.t1_char.proofs.TurnsTaken.{IsStepped, answered_over, stepped_is}
use Rattle.t1_outline.specs.declared.pen.Pen.{Pen}
use Rattle.t1_outline.specs.declared.segment.Segment.{Segment}
use Rattle.t1_outline.specs.Outlines.{drawn}
use Rattle.t1_outline.specs.Private.Outlining.{IsOutlining, left_in, steps_in}
use Rattle.t1_rules.specs.Watches.{most_steps}

-- A pen sees fewer steps than it can.
pub few_seen : (m : MachineView) → length (take m.counted (steps_in m)) < most_steps
few_seen m = omega (arith, length-take m.counted (steps_in m), length-take (limit_of m.edition) (steps_of m.font m.glyph), limit_few m.edition)

-- The same machine, one call further on.
pub record IsSame (old new : MachineView) : Type 0 where
  pub font_is : new.font ≡ old.font
  pub glyph_is : new.glyph ≡ old.glyph
  pub edition_is : new.edition ≡ old.edition

pub same_steps : (old new : MachineView) → IsSame old new → steps_in new ≡ steps_in old
same_steps old new same = rw (same.font_is, same.glyph_is, same.edition_is) refl

-- It returned the next step.
pub record IsTold (old new : MachineView) : Type 0 where
  pub same : IsSame old new
  pub within : old.counted < length (steps_in old)
  pub counted : new.counted ≡ old.counted + 1
  pub number : new.step.number ≡ old.counted + 1
  pub seen : take new.counted (steps_in new) ≡ take old.counted (steps_in old) ++ new.step.step ∷ []
  pub ahead : drop old.counted (steps_in old) ≡ new.step.step ∷ drop new.counted (steps_in new)

pub told : (old new : MachineView) → IsSame old new → IsAsked Returned old new (stepped new.step) → IsTold old new
told old new same asked =
    let steps = steps_of old.font old.glyph in
    let limit = limit_of old.edition in
    let at : asked.before ≡ old.counted = asked.returned refl in
    let next : IsStepped limit steps old.counted new.step = stepped_is limit steps old.counted new.step (asked.turn ∙ ap (turn_at limit steps) at) in
    let counted : new.counted ≡ old.counted + 1 = asked.counted ∙ ap (counted_after limit steps) at ∙ next.counted in
    let below : old.counted < limit = omega (arith, next.within, length-take limit steps) in
    let step : get_or (steps_in old) old.counted new.step.step ≡ new.step.step =
    get_or-take limit steps old.counted new.step.step below ∙ get_or_from_slice_get steps old.counted new.step.step new.step.step next.there in
    record {
      same = same;
      within = next.within;
      counted = counted;
      number = next.number;
      seen = rw (same_steps old new same, counted) next.more;
      ahead = rw (same_steps old new same, counted)
          (drop_more (steps_in old) old.counted new.step.step next.within ∙ ap (λ x. x ∷ drop (old.counted + 1) (steps_in old)) step);
    }

-- All segments of the current step were returned, and the next step draws these.
pub next_drawn : (old new : MachineView) (segments more : List Segment) (given : ℕ) → IsTold old new → length segments ≤ given
    → more ≡ drawn (take old.counted (steps_in old)) new.step.step
    → left_in new more 0 ≡ left_in old segments given
next_drawn old new segments more given is all drawn_is =
    let seen = take old.counted (steps_in old) in
    let long : length seen ≡ old.counted = omega (arith, is.within, length-take old.counted (steps_in old)) in
    rw (drop_all given segments all, is.ahead, is.seen, drawn_is, is.number, long) refl

-- There is no further step: nothing is left, and nothing was before.
after_no_less : (limit : ℕ) (steps : List StepView) (n : ℕ) → n ≤ counted_after limit steps n
after_no_less limit steps n = go (is_returned limit steps n)
  where
    go : (b : Bool) → n ≤ (if b then n else n + 1)
    go true = omega arith
    go false = omega arith

pub record IsOver (old new : MachineView) : Type 0 where
  pub same : IsSame old new
  pub all : length (steps_in old) ≤ old.counted
  pub more : old.counted ≤ new.counted

pub over : (old new : MachineView) (answer : Answer) → IsSame old new → (answer ≡ Step → ⊥) → IsAsked Returned old new (answer_view answer new.step) → IsOver old new
over old new answer same other asked =
    let steps = steps_of old.font old.glyph in
    let limit = limit_of old.edition in
    let at : asked.before ≡ old.counted = asked.returned refl in
    let whole : take old.counted (steps_in old) ≡ steps_in old =
    answered_over limit steps old.counted answer new.step other (asked.turn ∙ ap (turn_at limit steps) at) in
    record {
      same = same;
      all = omega (arith, ap length whole, length-take old.counted (steps_in old));
      more = omega (arith, asked.counted, at, after_no_less limit steps asked.before);
    }

pub none_left : (old new : MachineView) (segments : List Segment) (given : ℕ) → IsOver old new → length segments ≤ given → left_in old segments given ≡ []
none_left old new segments given is all = rw (drop_all given segments all, drop_all old.counted (steps_in old) is.all) refl

pub none_behind : (old new : MachineView) (segments : List Segment) (given : ℕ) → IsOver old new → length segments ≤ given → left_in new segments given ≡ []
none_behind old new segments given is all =
    let past : length (steps_in old) ≤ new.counted = omega (arith, is.all, is.more) in
    rw (drop_all given segments all, same_steps old new is.same, drop_all new.counted (steps_in old) past) refl

pub outlining_stays : (old new : MachineView) (pen : Pen) → IsOver old new → IsOutlining old pen → IsOutlining new pen
outlining_stays old new pen is stands =
    let past : length (steps_in old) ≤ new.counted = omega (arith, is.all, is.more) in
    let same : take new.counted (steps_in new) ≡ take old.counted (steps_in old) =
    ap (take new.counted) (same_steps old new is.same) ∙ take_all new.counted (steps_in old) past ∙ sym (take_all old.counted (steps_in old) is.all) in
    rw (same, is.same.edition_is) stands
