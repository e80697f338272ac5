-- All runs have as many results as there are lines, and report as many fonts as weren't checked.
use Rattle.std.proofs.Common.{◌≡◌, ◌≤◌, ◌<◌, ℕ, ◌+◌, nat_lt, List, [], ◌∷◌, ◌++◌, length, length-append, Option, inl, inr, arith}
use Rattle.std.proofs.lemmas.Bool.{cases_Bool, ltb-true}
use Rattle.std.proofs.lemmas.List.Sums.{sum_by-cons}
use Rattle.std.specs.List.{AllByRecursion, sum_by}
use Rattle.serde_json.specs.Data.{Data}
use Rattle.t1_forms.specs.Sarif.{SarifState, begun, most_failures}
use Rattle.t1_forms.specs.SarifDocuments.{AllIsTold, Run, after_one, line_count, notification_of, result_of, run_step, runs_from, unchecked_count}
use Rattle.t1_forms.specs.Tellings.{ReasonValue, ToldValue, WhatValue, of_line, of_unchecked}

abbrev all_results : List Run → ℕ
all_results runs = sum_by (λ run. length run.results) runs

abbrev all_failures : List Run → ℕ
all_failures runs = sum_by (λ run. length run.failures) runs

abbrev lines : List ToldValue → ℕ
lines ts = sum_by (λ t. line_count t.what) ts

abbrev unchecked : List ToldValue → ℕ
unchecked ts = sum_by (λ t. unchecked_count t.what) ts

record Counts (results failures line_sum unchecked_sum : ℕ) (runs : List Run) : Type 0 where
  pub of_results : all_results runs ≡ results + line_sum
  pub of_failures : all_failures runs ≡ failures + unchecked_sum
  pub most : AllByRecursion (λ run. length run.failures ≤ most_failures) runs

abbrev Counted : List ToldValue → (SarifState → List Data → List Data → List Run) → Type 0
Counted ts rest =
    (state : SarifState) (results failures : List Data) → length failures ≤ most_failures
    → Counts (length results) (length failures) (lines ts) (unchecked ts) (rest state results failures)

counted-with : (ts : List ToldValue) (rest : SarifState → List Data → List Data → List Run) → Counted ts rest
    → (state after : SarifState) (results failures : List Data) (font : Option (List ℕ)) (what : WhatValue)
    → (reason : Option ReasonValue) → length failures ≤ most_failures
    → Counts (length results) (length failures) (line_count what + lines ts) (unchecked_count what + unchecked ts)
    (run_step rest state after results failures font what reason)
counted-with ts rest counted state after results failures font (of_line l) reason room =
    let more = counted after (results ++ result_of state font l reason ∷ []) failures room in
    let long = length-append results (result_of state font l reason ∷ []) in
    record {
      of_results = omega (arith, more.of_results, long);
      of_failures = omega (arith, more.of_failures);
      most = more.most;
    }
counted-with ts rest counted state after results failures font (of_unchecked why) reason room =
    elim (cases_Bool (nat_lt (length failures) most_failures)) [
      | inl less ↦ (
          let long = length-append failures (notification_of font why ∷ []) in
          let small : length failures < most_failures = ltb-true (length failures) most_failures less in
          let more = counted after results (failures ++ notification_of font why ∷ []) (omega (arith, long, small)) in
          rw less (record {
            of_results = omega (arith, more.of_results);
            of_failures = omega (arith, more.of_failures, long);
            most = more.most;
          }))
      | inr full ↦ (
          let more = counted after [] (notification_of font why ∷ []) (omega arith) in
          let run : Run = record { results = results; failures = failures } in
          let runs = rest after [] (notification_of font why ∷ []) in
          let first = sum_by-cons (λ r. length r.results) run runs in
          let told = sum_by-cons (λ r. length r.failures) run runs in
          rw full (record {
            of_results = omega (arith, more.of_results, first);
            of_failures = omega (arith, more.of_failures, told);
            most = (room, more.most);
          }))
    ]

counted : (ts : List ToldValue) → Counted ts (runs_from ts)
counted [] state results failures room = record { of_results = omega arith; of_failures = omega arith; most = (room, tt) }
counted (t ∷ ts) state results failures room =
    let one = counted-with ts (runs_from ts) (counted ts) state (after_one state t) results failures t.font t.what t.reason room in
    let lines_more = sum_by-cons (λ t. line_count t.what) t ts in
    let unchecked_more = sum_by-cons (λ t. unchecked_count t.what) t ts in
    record {
      of_results = omega (arith, one.of_results, lines_more);
      of_failures = omega (arith, one.of_failures, unchecked_more);
      most = one.most;
    }

pub all_is_told : AllIsTold
all_is_told pages ts =
    let all = counted ts (begun pages) [] [] (omega arith) in
    record { results = omega (arith, all.of_results); failures = omega (arith, all.of_failures); most = all.most }
