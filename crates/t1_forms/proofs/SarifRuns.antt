-- What is written of tellings is the document of their runs.
use Rattle.std.proofs.Common.{◌≡◌, ◌==◌, ℕ, ◌+◌, nat_lt, Bool, true, false, ◌||◌, List, [], ◌∷◌, ◌++◌, codes, length, length-append, Option, inl, inr, refl, sym, ap, ◌∙◌, arith, append_assoc, append-nil}
use Rattle.std.proofs.lemmas.Bool.{cases_Bool}
use Rattle.std.proofs.lemmas.Bool.Decides.{nat_tests}
use Rattle.serde_json.specs.Data.{Data}
use Rattle.serde_json.specs.Written.{comma_if, compact_text}
use Rattle.t1_forms.specs.Sarif.{SarifState, after_what, begun, document_begin, most_failures, run_begin, run_end}
use Rattle.t1_forms.specs.SarifDocuments.{DocumentsAreOfTheirRuns, Run, notification_of, result_of, run_step, runs_from, runs_text, separated, separated_from, tellings_text}
use Rattle.t1_forms.specs.Tellings.{ReasonValue, ToldValue, WhatValue, of_line, of_unchecked, what_spelled}

abbrev has_items : List Data → Bool
has_items [] = false
has_items (d ∷ ds) = true

or_false : (b : Bool) → (b || false) ≡ b
or_false true = refl
or_false false = refl

or_true : (b : Bool) → (b || true) ≡ true
or_true true = refl
or_true false = refl

-- One object more.
separated_push : (later : Bool) (ds : List Data) (d : Data)
    → separated_from later (ds ++ d ∷ []) ≡ separated_from later ds ++ (comma_if (later || has_items ds) ++ compact_text d)
separated_push later [] d = rw (or_false later) (append-nil (comma_if later ++ compact_text d))
separated_push later (e ∷ ds) d =
    ap (λ t. (comma_if later ++ compact_text e) ++ t) (separated_push true ds d)
    ∙ rw (or_true later) (sym (append_assoc (comma_if later ++ compact_text e) (separated_from true ds) (comma_if true ++ compact_text d)))

-- What is kept is of these results and failures.
record Stands (state : SarifState) (results failures : List Data) : Type 0 where
  pub has : state.has_results ≡ has_items results
  pub count : state.failure_count ≡ length failures
  pub some : nat_lt 0 state.failure_count ≡ has_items failures
  pub text : state.failures ≡ separated failures

some_pushed : (ds : List Data) (d : Data) → has_items (ds ++ d ∷ []) ≡ true
some_pushed [] d = refl
some_pushed (e ∷ ds) d = refl

one_longer : (ds : List Data) (d : Data) → length ds + 1 ≡ length (ds ++ d ∷ [])
one_longer ds d = let long = length-append ds (d ∷ []) in omega (arith, long)

some_counted : (n : ℕ) → nat_lt 0 (n + 1) ≡ true
some_counted n = grind (arith, nat_tests)

stands_failure : (state : SarifState) (results failures : List Data) (d : Data) → Stands state results failures
    → Stands (record state {
      failures = state.failures ++ (comma_if (nat_lt 0 state.failure_count) ++ compact_text d);
      failure_count = state.failure_count + 1;
    }) results (failures ++ d ∷ [])
stands_failure state results failures d stands = record {
  has = stands.has;
  count = ap (λ n. n + 1) stands.count ∙ one_longer failures d;
  some = some_counted state.failure_count ∙ sym (some_pushed failures d);
  text = rw (stands.some, stands.text) (sym (separated_push false failures d));
}

stream-end : (later : Bool) (state : SarifState) (results failures : List Data) → Stands state results failures
    → runs_text later state.pages (runs_from [] state results failures) ≡ (comma_if later ++ run_begin state.pages) ++ (separated results ++ tellings_text state [])
stream-end later state results failures stands =
    rw (stands.count, stands.text)
    (ap (λ t. (comma_if later ++ run_begin state.pages) ++ t)
    (append_assoc (separated results) (run_end (length failures == 0) (separated failures)) (codes "]}\n")))

-- The runs that such a function gives are those that are written of tellings.
abbrev Streams : List ToldValue → (SarifState → List Data → List Data → List Run) → Type 0
Streams ts rest =
    (later : Bool) (state : SarifState) (results failures : List Data) → Stands state results failures
    → runs_text later state.pages (rest state results failures) ≡ (comma_if later ++ run_begin state.pages) ++ (separated results ++ tellings_text state ts)

stream-with : (ts : List ToldValue) (rest : SarifState → List Data → List Data → List Run) → Streams ts rest
    → (later : Bool) (state : SarifState) (results failures : List Data) (font : Option (List ℕ)) (what : WhatValue)
    → (reason : Option ReasonValue) → Stands state results failures
    → runs_text later state.pages (run_step rest state (after_what state font what (what_spelled what)) results failures font what reason)
    ≡ (comma_if later ++ run_begin state.pages) ++ (separated results ++ tellings_text state (record { font = font; what = what; reason = reason } ∷ ts))
stream-with ts rest streams later state results failures font (of_line l) reason stands =
    let d = result_of state font l reason in
    let after = after_what state font (of_line l) (what_spelled (of_line l)) in
    let more = streams later after (results ++ d ∷ []) failures (record {
      has = sym (some_pushed results d);
      count = stands.count;
      some = stands.some;
      text = stands.text;
    }) in
    more
    ∙ ap (λ t. (comma_if later ++ run_begin state.pages) ++ (t ++ tellings_text after ts)) (separated_push false results d)
    ∙ ap (λ t. (comma_if later ++ run_begin state.pages) ++ t)
    (append_assoc (separated results) (comma_if (has_items results) ++ compact_text d) (tellings_text after ts))
    ∙ ap (λ b. (comma_if later ++ run_begin state.pages) ++ (separated results ++ ((comma_if b ++ compact_text d) ++ tellings_text after ts)))
    (sym stands.has)
stream-with ts rest streams later state results failures font (of_unchecked why) reason stands =
    let d = notification_of font why in
    elim (cases_Bool (nat_lt (length failures) most_failures)) [
      | inl room ↦ (
          let kept : nat_lt state.failure_count most_failures ≡ true = ap (λ n. nat_lt n most_failures) stands.count ∙ room in
          rw (room, kept)
          (streams later _ results (failures ++ d ∷ []) (stands_failure state results failures d stands)))
      | inr full ↦ (
          let kept : nat_lt state.failure_count most_failures ≡ false = ap (λ n. nat_lt n most_failures) stands.count ∙ full in
          let fresh = record state { has_results = false; failures = []; failure_count = 0 } in
          let stood : Stands fresh [] [] = record { has = refl; count = refl; some = refl; text = refl } in
          let after = record fresh { failures = compact_text d; failure_count = 1 } in
          let more = streams true after [] (d ∷ []) (stands_failure fresh [] [] d stood) in
          rw (full, kept)
          (ap (λ t. (comma_if later ++ run_begin state.pages)
          ++ ((separated results ++ run_end (length failures == 0) (separated failures)) ++ t)) more
          ∙ rw (stands.count, stands.text)
          (ap (λ t. (comma_if later ++ run_begin state.pages) ++ t)
          (append_assoc (separated results) (run_end (length failures == 0) (separated failures))
          ((44 ∷ run_begin state.pages) ++ tellings_text after ts)
          ∙ ap (λ t. separated results ++ t)
          (sym (append_assoc (run_end (length failures == 0) (separated failures)) (44 ∷ run_begin state.pages) (tellings_text after ts)))))))
    ]

stream : (ts : List ToldValue) → Streams ts (runs_from ts)
stream [] later state results failures stands = stream-end later state results failures stands
stream (t ∷ ts) later state results failures stands =
    stream-with ts (runs_from ts) (stream ts) later state results failures t.font t.what t.reason stands

pub documents : DocumentsAreOfTheirRuns
documents pages ts =
    append_assoc document_begin (run_begin pages) (tellings_text (begun pages) ts)
    ∙ ap (λ t. document_begin ++ t)
    (sym (stream ts false (begun pages) [] [] (record { has = refl; count = refl; some = refl; text = refl })))
