-- What a machine returns, call by call.
use Rattle.std.proofs.Common.{◌≡◌, ℕ, ◌+◌, ◌<◌, ◌≤◌, true, true≢false, inl, inr, List, length, length-take, take, ap, sym, ◌∙◌, arith}
use Rattle.std.proofs.lemmas.Bool.{cases_lt}
use Rattle.std.proofs.lemmas.Option.{slice_get_cases, slice_get_within}
use Rattle.t1_char.specs.Steps.{StepView}
use Rattle.t1_char.specs.Turns.{limit_or_end, step_or_end, turn_at, counted_after}
use Rattle.t1_char.specs.Laws.Turns.{EndsAreReturned, LastAnswersAreReturnedAgain, LimitsAreReturned, StepsAreReturned, is_last_answer}
use Rattle.t1_char.proofs.MachineSteps.{count_on, count_stays, turn_above, turn_below, turn_past}

pub steps_are_returned : StepsAreReturned
steps_are_returned limit steps n step below is = (
  turn_below limit steps n below ∙ ap (step_or_end n) is,
  sym (count_on limit steps n (omega (arith, below, slice_get_within steps n step is, length-take limit steps))),
)

pub ends_are_returned : EndsAreReturned
ends_are_returned limit steps few = turn_past limit steps (length steps) few (omega arith)

pub limits_are_returned : LimitsAreReturned
limits_are_returned limit steps step is = turn_above limit steps limit (omega arith) ∙ ap (limit_or_end limit) is

-- After the first end or limit the count stays, and so does the result.
stays : (limit : ℕ) (steps : List StepView) (n : ℕ) → length (take limit steps) < n
    → (turn_at limit steps (counted_after limit steps n) ≡ turn_at limit steps n)
    × (counted_after limit steps (counted_after limit steps n) ≡ counted_after limit steps n)
stays limit steps n past =
    let count = count_stays limit steps n past in
    (ap (turn_at limit steps) count, ap (counted_after limit steps) count)

-- At the first end or limit all steps up to the limit were returned.
at_last : (limit : ℕ) (steps : List StepView) (n : ℕ) → n ≤ length (take limit steps) → is_last_answer (turn_at limit steps n) ≡ true
    → n ≡ length (take limit steps)
at_last limit steps n near last =
    elim (cases_lt n (length (take limit steps))) [
      | inr all ↦ omega (arith, near, all)
      | inl less ↦ elim (slice_get_cases steps n).1 [
        | inl (step, there, is, at) ↦
            let below : n < limit = omega (arith, less, length-take limit steps) in
            absurd (true≢false (sym last ∙ ap is_last_answer (turn_below limit steps n below ∙ ap (step_or_end n) is)))
        | inr (none, is) ↦ absurd (omega (arith, less, none, length-take limit steps))
      ]
    ]

-- The next call returns the same.
same_behind : (limit : ℕ) (steps : List StepView) (n : ℕ) → n ≡ length (take limit steps) → turn_at limit steps (n + 1) ≡ turn_at limit steps n
same_behind limit steps n at =
    elim (cases_lt limit (length steps)) [
      | inl more ↦
          let all : limit ≤ n = omega (arith, at, more, length-take limit steps) in
          turn_above limit steps (n + 1) (omega (arith, all)) ∙ sym (turn_above limit steps n all)
      | inr few ↦
          let all : length steps ≤ n = omega (arith, at, few, length-take limit steps) in
          turn_past limit steps (n + 1) few (omega (arith, all)) ∙ sym (turn_past limit steps n few all)
    ]

pub last_answers_are_returned_again : LastAnswersAreReturnedAgain
last_answers_are_returned_again limit steps n last =
    elim (cases_lt (length (take limit steps)) n) [
      | inl past ↦ stays limit steps n past
      | inr near ↦
          let at = at_last limit steps n near last in
          let count = sym (count_on limit steps n near) in (
            ap (turn_at limit steps) count ∙ same_behind limit steps n at,
            ap (counted_after limit steps) count ∙ count_stays limit steps (n + 1) (omega (arith, at)) ∙ sym count,
          )
    ]
