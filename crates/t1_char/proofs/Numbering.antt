-- Steps that are numbered from 1, and one more.
use Rattle.std.proofs.Common.{◌≡◌, ℕ, suc, ◌+◌, ◌++◌, List, [], ◌∷◌, length, map, ap, sym, ◌∙◌, arith}
use Rattle.std.proofs.lemmas.List.{length-map, map-append}
use Rattle.t1_char.specs.declared.step.Step.{Step}
use Rattle.t1_char.specs.Steps.{StepView, NumberedStep, numbered}
use Rattle.t1_char.specs.StepValues.{step_view, step_value}
use Rattle.t1_char.specs.Private.Steps.{AreNumbered}

abbrev pub with_number : StepView → ℕ → NumberedStep
with_number s n = record { number = n; step = s }

pub numbered_more : (n : ℕ) (ss : List StepView) (s : StepView) → numbered n (ss ++ s ∷ []) ≡ numbered n ss ++ with_number s (n + length ss) ∷ []
numbered_more n [] s = ap (λ k. with_number s k ∷ []) (omega arith)
numbered_more n (t ∷ ss) s =
    let k : n + 1 + length ss ≡ n + suc (length ss) = omega arith in
    ap (λ l. with_number t n ∷ l) (numbered_more (n + 1) ss s ∙ ap (λ i. numbered (n + 1) ss ++ with_number s i ∷ []) k)

pub numbered_push : (xs : List Step) (x : Step) → AreNumbered xs → x.number ≡ length xs + 1 → AreNumbered (xs ++ x ∷ [])
numbered_push xs x so_far number =
    let ss = map step_view xs in
    let count : length ss ≡ length xs = length-map xs step_view in
    let same : length xs + 1 ≡ 1 + length ss = omega arith in
    map-append step_value xs (x ∷ [])
    ∙ ap (λ l. l ++ step_value x ∷ []) so_far
    ∙ ap (λ n. numbered 1 ss ++ with_number (step_view x) n ∷ []) (number ∙ same)
    ∙ sym (numbered_more 1 ss (step_view x))
    ∙ ap (numbered 1) (sym (map-append step_view xs (x ∷ [])))
