-- Steps that are added to a list until it is full.
use Rattle.std.proofs.Common.{◌≡◌, ℕ, ◌<◌, ◌≤◌, Bool, true, false, cond, List, [], ◌∷◌, ◌++◌, length, take, refl, ap, sym, ◌∙◌, append_assoc, append-nil, length-take, arith}
use Rattle.std.proofs.lemmas.List.{take_all, take-append-le}
use Rattle.t1_char.specs.Effects.{State}
use Rattle.t1_char.specs.Steps.{StepView, Run, first, only, after, and_then}
use Rattle.t1_char.specs.Private.Steps.{GoesOn, IsExpanded}

-- One step of the rest was added.
pub goes_more : (front : List StepView) (run : Run) (steps : List StepView) (step : StepView) (rest : Run)
    → GoesOn front run steps (first step rest) → GoesOn front run (steps ++ step ∷ []) rest
goes_more front run steps step rest h =
    record {
      steps_are = h.steps_are ∙ sym (append_assoc steps (step ∷ []) rest.steps);
      finished_is = h.finished_is;
      state_is = h.state_is;
    }

-- The last step was added.
pub goes_out : (most : ℕ) (front : List StepView) (run : Run) (steps : List StepView) (step : StepView) (finished : Bool) (s : State)
    → length (steps ++ step ∷ []) ≤ most → GoesOn front run steps (only step finished s) → IsExpanded most front run (steps ++ step ∷ []) finished s
goes_out most front run steps step finished s room h =
    record {
      steps_are = sym (take_all most (steps ++ step ∷ []) room) ∙ ap (take most) (sym h.steps_are);
      finished_is = λ _. sym h.finished_is;
      state_is = λ _. sym h.state_is;
    }

-- A list that wasn't filled was taken whole.
take_short : (most : ℕ) (xs : List StepView) → length (take most xs) < most → take most xs ≡ xs
take_short most xs short = take_all most xs (omega (arith, length-take most xs))

-- What follows a run is after its steps.
pub and_then_front : (run : Run) (next : State → Run) → (more : List StepView) × ((and_then run next).steps ≡ run.steps ++ more)
and_then_front run next = by_finished run.finished run.steps next run.state
  where
    by_finished : (b : Bool) (steps : List StepView) (next : State → Run) (s : State) → (more : List StepView)
        × ((cond b (record { steps = steps; finished = b; state = s }) (after steps (next s))).steps ≡ steps ++ more)
    by_finished true steps next s = ([], sym (append-nil steps))
    by_finished false steps next s = ((next s).steps, refl)

-- What was added for a call, where next is what follows the call.
pub record Called (most : ℕ) (front : List StepView) (run : Run) (steps : List StepView) (finished : Bool) (s : State) (next : State → Run) : Type 0 where
  pub before : List StepView
  pub inner : Run
  pub goes_on : GoesOn front run before (and_then inner next)
  pub added : IsExpanded most before inner steps finished s

-- The call filled the list.
pub called_full : (most : ℕ) (front : List StepView) (run : Run) (steps : List StepView) (finished : Bool) (s : State) (next : State → Run)
    → most ≤ length steps → Called most front run steps finished s next → IsExpanded most front run steps finished s
called_full most front run steps finished s next full h =
    let more : List StepView = (and_then_front h.inner next).0 in
    let both : List StepView = h.before ++ h.inner.steps in
    let all : front ++ run.steps ≡ both ++ more =
    h.goes_on.steps_are ∙ ap (λ l. h.before ++ l) (and_then_front h.inner next).1 ∙ sym (append_assoc h.before h.inner.steps more) in
    let count : length steps ≡ length (take most both) = ap (λ l. length l) h.added.steps_are in
    let enough : most ≤ length both = omega (arith, length-take most both) in
    record {
      steps_are = h.added.steps_are ∙ sym (take-append-le most both more enough) ∙ ap (take most) (sym all);
      finished_is = λ short. absurd (omega arith);
      state_is = λ short. absurd (omega arith);
    }

-- All that the call has was added.
called_whole : (most : ℕ) (front : List StepView) (run : Run) (steps : List StepView) (finished : Bool) (s : State) (next : State → Run) → length steps < most
    → (h : Called most front run steps finished s next) → steps ≡ h.before ++ h.inner.steps
called_whole most front run steps finished s next short h =
    let both : List StepView = h.before ++ h.inner.steps in
    let count : length steps ≡ length (take most both) = ap (λ l. length l) h.added.steps_are in
    h.added.steps_are ∙ take_short most both (omega arith)

finished_run : (run : Run) (next : State → Run) → run.finished ≡ true → and_then run next ≡ run
finished_run run next is = ap (λ b. cond b run (after run.steps (next run.state))) is

open_run : (run : Run) (next : State → Run) → run.finished ≡ false → and_then run next ≡ after run.steps (next run.state)
open_run run next is = ap (λ b. cond b run (after run.steps (next run.state))) is

-- It finished the glyph.
pub called_finished : (most : ℕ) (front : List StepView) (run : Run) (steps : List StepView) (s : State) (next : State → Run) → length steps < most
    → Called most front run steps true s next → IsExpanded most front run steps true s
called_finished most front run steps s next short h =
    let is : and_then h.inner next ≡ h.inner = finished_run h.inner next (sym (h.added.finished_is short)) in
    let all : front ++ run.steps ≡ h.before ++ h.inner.steps = h.goes_on.steps_are ∙ ap (λ r. h.before ++ r.steps) is in
    record {
      steps_are = h.added.steps_are ∙ ap (take most) (sym all);
      finished_is = λ _. h.added.finished_is short ∙ sym (h.goes_on.finished_is ∙ ap (λ r. r.finished) is);
      state_is = λ _. h.added.state_is short ∙ sym (h.goes_on.state_is ∙ ap (λ r. r.state) is);
    }

-- It didn't, and what follows it is to come.
pub called_open : (most : ℕ) (front : List StepView) (run : Run) (steps : List StepView) (s : State) (next : State → Run) → length steps < most
    → Called most front run steps false s next → GoesOn front run steps (next s)
called_open most front run steps s next short h =
    let is : and_then h.inner next ≡ after h.inner.steps (next s) =
    open_run h.inner next (sym (h.added.finished_is short)) ∙ ap (λ x. after h.inner.steps (next x)) (sym (h.added.state_is short)) in
    record {
      steps_are = h.goes_on.steps_are ∙ ap (λ r. h.before ++ r.steps) is ∙ sym (append_assoc h.before h.inner.steps (next s).steps)
          ∙ ap (λ l. l ++ (next s).steps) (sym (called_whole most front run steps false s next short h));
      finished_is = h.goes_on.finished_is ∙ ap (λ r. r.finished) is;
      state_is = h.goes_on.state_is ∙ ap (λ r. r.state) is;
    }
