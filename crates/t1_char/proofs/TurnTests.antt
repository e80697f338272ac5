-- Whether a step is left, by the limit.
use Rattle.std.proofs.Common.{◌≡◌, ℕ, ◌<◌, ◌≤◌, cond, nat_lt, inl, inr, List, length, length-take, take, slice_get, ap, sym, ◌∙◌, lt-ltb, le-ltb, arith}
use Rattle.std.proofs.lemmas.Bool.{cases_lt}
use Rattle.std.proofs.lemmas.Option.{slice_get_past}
use Rattle.t1_char.specs.Steps.{StepView}
use Rattle.t1_char.specs.Turns.{step_or_end, limit_or_end, turn_at}

-- Where none is left below the limit, there is none at the limit either.
pub turn_by_limit : (limit : ℕ) (steps : List StepView) (n : ℕ) → turn_at limit steps n
    ≡ cond (nat_lt n limit) (step_or_end n (slice_get steps n)) (limit_or_end limit (slice_get steps limit))
turn_by_limit limit steps n =
    elim (cases_lt n (length (take limit steps))) [
      | inl left ↦
          let below : n < limit = omega (arith, left, length-take limit steps) in
          ap (λ b. cond b (step_or_end n (slice_get steps n)) (limit_or_end limit (slice_get steps limit)))
          (lt-ltb n (length (take limit steps)) left ∙ sym (lt-ltb n limit below))
      | inr none ↦
          ap (λ b. cond b (step_or_end n (slice_get steps n)) (limit_or_end limit (slice_get steps limit))) (le-ltb n (length (take limit steps)) none)
          ∙ elim (cases_lt n limit) [
            | inr above ↦ ap (λ b. cond b (step_or_end n (slice_get steps n)) (limit_or_end limit (slice_get steps limit))) (sym (le-ltb n limit above))
            | inl below ↦
                let all : length steps ≤ n = omega (arith, none, below, length-take limit steps) in
                ap (limit_or_end limit) (slice_get_past steps limit (omega (arith, all, below)))
                ∙ sym (ap (step_or_end n) (slice_get_past steps n all))
                ∙ ap (λ b. cond b (step_or_end n (slice_get steps n)) (limit_or_end limit (slice_get steps limit))) (sym (lt-ltb n limit below))
          ]
    ]
