-- What a call of a machine returns, over its count and the steps of its glyph.
-- From its frames a machine still executes what is behind as many steps of the glyph as it counts, so the step in hand is the next of these.
use Rattle.std.proofs.Common.{◌≡◌, ℕ, zero, suc, ◌+◌, ◌-◌, ◌<◌, ◌≤◌, Bool, true, false, cond, nat_lt, None, Some, List, [], ◌∷◌, ◌++◌, length, take, drop, slice_get, length-take, refl, ap, sym, subst, ◌∙◌, lt-ltb, le-ltb, arith}
use Rattle.t1_font.specs.Fonts.{FontValue}
use Rattle.t1_char.specs.declared.frames.Frames.{Frames}
use Rattle.t1_char.specs.declared.frames.Gone.{Gone}
use Rattle.t1_char.specs.declared.machine.Answer.{Answer}
use Rattle.t1_char.specs.declared.machine.Answer.TheVariants.{Step, Ended, Limit}
use Rattle.t1_char.specs.declared.token.CharToken.{CharToken}
use Rattle.t1_char.specs.declared.token.CharToken.TheVariants.{Number}
use Rattle.t1_char.specs.Charstrings.{tokens_in}
use Rattle.t1_char.specs.Effects.{State, Action, goes, calls, returns, finishes, most_calls}
use Rattle.t1_char.specs.Steps.{StepView, Run, and_then, expansion, step_at, effect_at, led_to}
use Rattle.t1_char.specs.StepValues.{step_view, step_value}
use Rattle.t1_char.specs.Turns.{ended, limited, stepped, step_of_number, step_or_end, limit_or_end, turn_at, counted_after}
use Rattle.t1_char.specs.AnswerViews.{answer_view}
use Rattle.t1_char.specs.declared.lines.Passing.{Passing}
use Rattle.t1_char.specs.declared.lines.Passing.TheVariants as passing
use Rattle.t1_char.specs.declared.lines.Way.{Way}
use Rattle.t1_char.specs.Lines.{IsAskedFarBehind, no_way}
use Rattle.t1_char.specs.Private.Cursors.{tokens_left}
use Rattle.t1_char.specs.Rests.{Frame, frame, rest_of}
use Rattle.t1_char.specs.Private.Frames.{callers_of, state_in, left_behind, step_here, steps_behind, steps_from}
use Rattle.t1_char.specs.Passing.{IsPassed}
use Rattle.t1_char.specs.Private.Advancing.{Advances, HasGoneFar, IsNext, Passage, passage}
use Rattle.t1_char.specs.Private.Machines.{GoesOnFrom, IsAt, IsBehind}
use Rattle.t1_char.specs.Private.Plain.{GoesOverOne}
use Rattle.t1_char.proofs.Additions.{and_then_front}
use Rattle.t1_char.proofs.TurnTests.{turn_by_limit}

-- The step of the first token is first, whatever it does.
led_by : (step : StepView) (s : State) (action : Action) (behind : State → Run) (called : ℕ → List ℕ → State → Run) → (rest : List StepView)
    × ((led_to step s action behind called).steps ≡ step ∷ rest)
led_by step s goes behind called = ((behind s).steps, refl)
led_by step s (calls number code) behind called = ((called number code s).steps, refl)
led_by step s returns behind called = ([], refl)
led_by step s finishes behind called = ([], refl)

expansion_leads : (font : FontValue) (n : ℕ) (path : List ℕ) (t : CharToken) (ts : List CharToken) (s : State) → (rest : List StepView)
    × ((expansion font n path (t ∷ ts) s).steps ≡ step_at font path t ts s ∷ rest)
unfolding expansion
expansion_leads font zero path t ts s =
    led_by (step_at font path t ts s) (effect_at font path t s).state (effect_at font path t s).action
    (λ left. expansion font zero path ts left) (λ number code left. expansion font zero path ts left)
expansion_leads font (suc n) path t ts s =
    led_by (step_at font path t ts s) (effect_at font path t s).state (effect_at font path t s).action
    (λ left. expansion font (suc n) path ts left)
    (λ number code left. and_then (expansion font n (path ++ number ∷ []) (tokens_in font code) left) (λ x. expansion font (suc n) path ts x))

rest_leads : (font : FontValue) (path : List ℕ) (t : CharToken) (ts : List CharToken) (frames : List Frame) (s : State) → (rest : List StepView)
    × ((rest_of font (frame path (t ∷ ts) ∷ frames) s).steps ≡ step_at font path t ts s ∷ rest)
unfolding rest_of
rest_leads font path t ts frames s =
    let run : Run = expansion font (most_calls - length path) path (t ∷ ts) s in
    let front = expansion_leads font (most_calls - length path) path t ts s in
    let more = and_then_front run (λ x. rest_of font frames x) in
    (front.0 ++ more.0, more.1 ∙ ap (λ steps. steps ++ more.0) front.1)

leads : (font : FontValue) (f : Frames) → (rest : List StepView) × (steps_from font f ≡ step_here font f ∷ rest)
leads font f = rest_leads font f.step.path.items f.step.token (left_behind f) (callers_of f.step.path.items 0 f.callers.items) (state_in f)

-- Lists from a place on.
abbrev tail_of : List StepView → List StepView
tail_of [] = []
tail_of (_ ∷ steps) = steps

empty_is : (step : StepView) (steps : List StepView) → [] ≡ step ∷ steps → ⊥
empty_is step steps is = omega (arith, ap (λ l. length l) is)

no_more : (n : ℕ) (steps : List StepView) → drop n steps ≡ [] → length steps ≤ n
no_more n [] is = omega arith
no_more zero (step ∷ steps) is = absurd (empty_is step steps (sym is))
no_more (suc n) (step ∷ steps) is = omega (arith, no_more n steps is)

get_past : (steps : List StepView) (n : ℕ) → length steps ≤ n → slice_get steps n ≡ None
get_past [] n short = refl
get_past (step ∷ steps) zero short = absurd (omega (arith, short))
get_past (step ∷ steps) (suc n) short = get_past steps n (omega (arith, short))

pub get_there : (n : ℕ) (steps rest : List StepView) (step : StepView) → drop n steps ≡ step ∷ rest → slice_get steps n ≡ Some step
get_there zero steps rest step is = ap (λ l. slice_get l 0) is
get_there (suc n) [] rest step is = absurd (empty_is step rest is)
get_there (suc n) (_ ∷ steps) rest step is = get_there n steps rest step is

pub drop_next : (n : ℕ) (steps rest : List StepView) (step : StepView) → drop n steps ≡ step ∷ rest → drop (suc n) steps ≡ rest
drop_next zero [] rest step is = absurd (empty_is step rest is)
drop_next zero (_ ∷ steps) rest step is = ap tail_of is
drop_next (suc n) [] rest step is = absurd (empty_is step rest is)
drop_next (suc n) (_ ∷ steps) rest step is = drop_next n steps rest step is

pub is_within : (n : ℕ) (steps rest : List StepView) (step : StepView) → drop n steps ≡ step ∷ rest → n + 1 ≤ length steps
is_within zero [] rest step is = absurd (empty_is step rest is)
is_within zero (_ ∷ steps) rest step is = omega arith
is_within (suc n) [] rest step is = absurd (empty_is step rest is)
is_within (suc n) (_ ∷ steps) rest step is = omega (arith, is_within n steps rest step is)

-- Results and counts.
pub turn_below : (limit : ℕ) (steps : List StepView) (n : ℕ) → n < limit → turn_at limit steps n ≡ step_or_end n (slice_get steps n)
turn_below limit steps n below = turn_by_limit limit steps n
    ∙ ap (λ b. cond b (step_or_end n (slice_get steps n)) (limit_or_end limit (slice_get steps limit))) (lt-ltb n limit below)

pub turn_above : (limit : ℕ) (steps : List StepView) (n : ℕ) → limit ≤ n → turn_at limit steps n ≡ limit_or_end limit (slice_get steps limit)
turn_above limit steps n above = turn_by_limit limit steps n
    ∙ ap (λ b. cond b (step_or_end n (slice_get steps n)) (limit_or_end limit (slice_get steps limit))) (le-ltb n limit above)

-- After all steps the end is returned.
pub turn_past : (limit : ℕ) (steps : List StepView) (n : ℕ) → length steps ≤ limit → length steps ≤ n → turn_at limit steps n ≡ ended
turn_past limit steps n few past = turn_by_limit limit steps n ∙ by_place (nat_lt n limit)
  where
    by_place : (b : Bool) → cond b (step_or_end n (slice_get steps n)) (limit_or_end limit (slice_get steps limit)) ≡ ended
    by_place true = ap (step_or_end n) (get_past steps n past)
    by_place false = ap (limit_or_end limit) (get_past steps limit few)

pub count_on : (limit : ℕ) (steps : List StepView) (n : ℕ) → n ≤ length (take limit steps) → n + 1 ≡ counted_after limit steps n
count_on limit steps n near = sym (ap (λ b. cond b n (n + 1)) (le-ltb (length (take limit steps)) n near))

pub count_stays : (limit : ℕ) (steps : List StepView) (n : ℕ) → length (take limit steps) < n → counted_after limit steps n ≡ n
count_stays limit steps n past = ap (λ b. cond b n (n + 1)) (lt-ltb (length (take limit steps)) n past)

-- What a call leaves of a machine that was after n steps.
pub record Answers (limit : ℕ) (steps : List StepView) (font : FontValue) (n : ℕ) (answer : Answer) (f : Frames) : Type 0 where
  pub stands : IsAt limit steps font (n + 1) answer f
  pub turn : answer_view answer (step_value f.step) ≡ turn_at limit steps n
  pub count : n + 1 ≡ counted_after limit steps n

pub still_goes_on : (limit : ℕ) (steps : List StepView) (font : FontValue) (n : ℕ) (answer : Answer) (f : Frames) → answer ≡ Step
    → IsAt limit steps font n answer f → GoesOnFrom limit steps font n f
still_goes_on limit steps font n answer f is at = subst (λ a. IsAt limit steps font n a f) is at

-- The run doesn't go on.
pub answers_end : (limit : ℕ) (steps : List StepView) (font : FontValue) (n : ℕ) (f new : Frames) → GoesOnFrom limit steps font n f
    → steps_from font f ≡ step_here font f ∷ [] → Answers limit steps font n Ended new
answers_end limit steps font n f new h over =
    let few : length steps ≤ n = no_more n steps (ap tail_of (sym h.steps_are ∙ over)) in
    record {
      stands = record {
        again = turn_past limit steps (n + 1) (omega (arith, few, h.near)) (omega (arith, few));
        stays = count_stays limit steps (n + 1) (omega (arith, few, length-take limit steps));
        most = omega (arith, h.near);
      };
      turn = sym (turn_past limit steps n (omega (arith, few, h.near)) few);
      count = count_on limit steps n (omega (arith, few, h.near, h.within, length-take limit steps));
    }

-- The current step was executed.
pub behind_executed : (limit : ℕ) (steps : List StepView) (font : FontValue) (n : ℕ) (f new : Frames) → GoesOnFrom limit steps font n f
    → steps_from font f ≡ step_here font f ∷ steps_behind font new → length new.step.path.items ≡ length new.callers.items
    → IsBehind limit steps font n new
behind_executed limit steps font n f new h over even =
    record { even = even; steps_are = sym (ap tail_of (sym h.steps_are ∙ over)); near = h.near; within = h.within }

next_is : (limit : ℕ) (steps : List StepView) (font : FontValue) (n : ℕ) (f new : Frames) → IsBehind limit steps font n f → IsNext font n f new
    → drop n steps ≡ step_here font new ∷ (leads font new).0
next_is limit steps font n f new h next = sym h.steps_are ∙ sym next.behind ∙ (leads font new).1

same_step : (font : FontValue) (n : ℕ) (f new : Frames) → IsNext font n f new → step_of_number (n + 1) (step_here font new) ≡ step_value new.step
same_step font n f new next = ap (λ step. step_of_number (n + 1) step) (sym next.step_is) ∙ ap (λ k. step_of_number k (step_view new.step)) (sym next.number)

pub answers_step : (limit : ℕ) (steps : List StepView) (font : FontValue) (n : ℕ) (f new : Frames) → IsBehind limit steps font n f → IsNext font n f new
    → n + 1 ≤ limit → Answers limit steps font n Step new
answers_step limit steps font n f new h next near =
    let rest : List StepView = (leads font new).0 in
    let there : drop n steps ≡ step_here font new ∷ rest = next_is limit steps font n f new h next in
    let one_more : n + 1 ≡ suc n = omega arith in
    record {
      stands = record {
        ready = next.ready;
        steps_are = (leads font new).1 ∙ ap (λ l. step_here font new ∷ l)
            (sym (ap (λ k. drop k steps) one_more ∙ drop_next n steps rest (step_here font new) there));
        near = near;
        within = is_within n steps rest (step_here font new) there;
      };
      turn = sym (turn_below limit steps n (omega (arith, near)) ∙ ap (step_or_end n) (get_there n steps rest (step_here font new) there)
          ∙ ap stepped (same_step font n f new next));
      count = count_on limit steps n (omega (arith, near, h.within, length-take limit steps));
    }

pub answers_limit : (limit : ℕ) (steps : List StepView) (font : FontValue) (n : ℕ) (f new : Frames) → IsBehind limit steps font n f → IsNext font n f new
    → limit < n + 1 → Answers limit steps font n Limit new
answers_limit limit steps font n f new h next past =
    let rest : List StepView = (leads font new).0 in
    let there : drop n steps ≡ step_here font new ∷ rest = next_is limit steps font n f new h next in
    let at : n ≡ limit = omega (arith, past, h.near) in
    let found : limit_or_end limit (slice_get steps limit) ≡ limited (step_value new.step) =
    ap (λ k. limit_or_end k (slice_get steps k)) (sym at)
    ∙ ap (limit_or_end n) (get_there n steps rest (step_here font new) there)
    ∙ ap limited (same_step font n f new next) in
    record {
      stands = record {
        again = turn_above limit steps (n + 1) (omega (arith, at)) ∙ found;
        stays = count_stays limit steps (n + 1) (omega (arith, at, length-take limit steps));
        most = omega (arith, at);
      };
      turn = sym (turn_above limit steps n (omega (arith, at)) ∙ found);
      count = count_on limit steps n (omega (arith, at, h.within, length-take limit steps));
    }

-- A number was passed.
pub record GoneOver (limit : ℕ) (steps : List StepView) (font : FontValue) (n : ℕ) (new : Frames) : Type 0 where
  pub passed : IsPassed limit steps n
  pub behind : IsBehind limit steps font (n + 1) new

pub gone_over : (limit : ℕ) (steps : List StepView) (font : FontValue) (n : ℕ) (f new : Frames) → IsBehind limit steps font n f → GoesOverOne font f new
    → n < limit → GoneOver limit steps font n new
gone_over limit steps font n f new h over near =
    let step : StepView = step_at font f.step.path.items (Number over.number) (tokens_left new.current) (state_in f) in
    let rest : List StepView = steps_behind font new in
    let there : drop n steps ≡ step ∷ rest = sym h.steps_are ∙ over.behind in
    let one_more : n + 1 ≡ suc n = omega arith in
    record {
      passed = record {
        step = step;
        there = get_there n steps rest step there;
        kept = lt-ltb (length f.step.stack) 24 over.room;
        near = near;
      };
      behind = record {
        even = ap (λ l. length l) over.path ∙ h.even ∙ sym (ap (λ l. length l) over.callers);
        steps_are = sym (ap (λ k. drop k steps) one_more ∙ drop_next n steps rest step there);
        near = omega (arith, near);
        within = is_within n steps rest step there;
      };
    }

-- How a machine was called, by what the result leaves.
pub asked_far_none : (what : Passing) (limit : ℕ) (steps : List StepView) (font : FontValue) (n : ℕ) (answer : Answer) (f : Frames)
    → Answers limit steps font n answer f → IsAskedFarBehind what limit steps n (n + 1) (answer_view answer (step_value f.step)) no_way
asked_far_none what limit steps font n answer f answers =
    let same : n ≡ n + 0 = omega arith in
    record {
      taken = 0;
      passed = refl;
      returned = λ is. refl;
      turn = answers.turn ∙ ap (turn_at limit steps) same;
      counted = answers.count ∙ ap (counted_after limit steps) same;
    }

pub asked_far : (what : Passing) (limit : ℕ) (steps : List StepView) (font : FontValue) (n before taken : ℕ) (way : Way) (f : Frames) (answer : Answer) (new : Frames)
    → before ≡ n + taken → HasGoneFar (passage what limit font) steps n taken way f → (what ≡ passing.Returned → before ≡ n)
    → Answers limit steps font before answer new
    → IsAskedFarBehind what limit steps n (before + 1) (answer_view answer (step_value new.step)) way
asked_far what limit steps font n before taken way f answer new is over returned answers =
    record {
      taken = taken;
      passed = over.passed;
      returned = λ no. omega (arith, returned no, is);
      turn = answers.turn ∙ ap (turn_at limit steps) is;
      counted = answers.count ∙ ap (counted_after limit steps) is;
    }

-- The current step was executed, steps were passed, and the next was read.
pub record HasRead (p : Passage) (steps : List StepView) (n : ℕ) (gone : Gone) (new : Frames) : Type 0 where
  pub taken : ℕ
  pub taken_is : gone.before ≡ n + taken
  pub passed : Frames
  pub gone_far : HasGoneFar p steps n taken gone.way passed
  pub behind : IsBehind p.limit steps p.font gone.before passed
  pub next : IsNext p.font gone.before passed new

pub has_read : (what : Passing) (limit own : ℕ) (steps : List StepView) (font : FontValue) (n : ℕ) (gone : Gone) (answer : Answer)
    (f executed new : Frames) → own ≡ limit → answer ≡ Step → IsAt limit steps font n answer f
    → steps_from font f ≡ step_here font f ∷ steps_behind font executed → length executed.step.path.items ≡ length executed.callers.items
    → Advances (passage what own font) n executed gone new → HasRead (passage what limit font) steps n gone new
has_read what limit own steps font n gone answer f executed new limit_is is at executed_is even advances =
    let over : Advances (passage what limit font) n executed gone new =
    subst (λ k. Advances (passage what k font) n executed gone new) limit_is advances in
    let far : HasGoneFar (passage what limit font) steps n over.taken gone.way over.passed =
    over.over steps (behind_executed limit steps font n f executed (still_goes_on limit steps font n answer f is at) executed_is even) in
    record {
      taken = over.taken;
      taken_is = over.taken_is;
      passed = over.passed;
      gone_far = far;
      behind = subst (λ k. IsBehind limit steps font k over.passed) (sym over.taken_is) far.behind;
      next = over.next;
    }
