-- A document of SARIF as a whole: its runs, each with its results and what wasn't checked.
use Rattle.std.specs.Prelude.{◌≡◌, ◌≤◌, ℕ, ◌==◌, nat_lt, Bool, true, false, bytes_eq, if◌then◌else◌, List, [], ◌∷◌, ◌++◌, codes, length, Option, Some}
use Rattle.std.specs.List.{AllByRecursion, flat_map, sum_by}
use Rattle.serde_json.specs.Data.{Data}
use Rattle.serde_json.specs.Written.{comma_if, compact_text}
use Rattle.t1_rules.specs.Book.{code_of, text_of}
use Rattle.t1_lines.specs.Lines.{FaultLineValue, IsFaultLine, LineValue, fault_spelled, place_words, spaced}
use Rattle.t1_forms.specs.PageValues.{PagesValue}
use Rattle.t1_forms.specs.Sarif.{SarifState, after_result, after_telling, begun, closing, code_count, count_of, document_begin, most_failures, opening, run_begin, run_end, telling_text}
use Rattle.t1_forms.specs.Laws.{AreBytes}
use Rattle.t1_forms.specs.Percents.{decoded}
use Rattle.t1_io.specs.Devices.{one_more}
use Rattle.t1_forms.specs.SarifObjects.{behind_colon, fingerprint, line_code, notification_object, result_object, unit_of, uri_byte}
use Rattle.t1_forms.specs.Tellings.{ReasonValue, ToldValue, WhatValue, of_line, of_unchecked, what_spelled}

-- ---- what is written of tellings, one after another

abbrev pub after_one : SarifState → ToldValue → SarifState
after_one state t = after_telling state t (what_spelled t.what)

-- And then the end.
abbrev pub tellings_text : SarifState → List ToldValue → List ℕ
tellings_text state [] = closing state
tellings_text state (t ∷ ts) = telling_text state t (what_spelled t.what) ++ tellings_text (after_one state t) ts

-- ---- a document of runs

pub record Run : Type 0 where
  pub results : List Data
  pub failures : List Data

-- Objects with commas between them.
abbrev pub separated_from : Bool → List Data → List ℕ
separated_from later [] = []
separated_from later (d ∷ ds) = (comma_if later ++ compact_text d) ++ separated_from true ds

abbrev pub separated : List Data → List ℕ
separated = separated_from false

-- A run after its tool and its rules.
abbrev pub run_rest : Run → List ℕ
run_rest run = separated run.results ++ run_end (length run.failures == 0) (separated run.failures)

-- Runs with commas between them, and what is after the last one.
abbrev pub runs_text : Bool → PagesValue → List Run → List ℕ
runs_text later pages [] = codes "]}\n"
runs_text later pages (run ∷ runs) = (comma_if later ++ run_begin pages) ++ (run_rest run ++ runs_text true pages runs)

abbrev pub document_text : PagesValue → List Run → List ℕ
document_text pages runs = document_begin ++ runs_text false pages runs

-- ---- the runs of tellings

-- The result of a line.
abbrev pub result_of : SarifState → Option (List ℕ) → LineValue → Option ReasonValue → Data
result_of state font l reason = result_object state.pages.list font l (what_spelled (of_line l)) reason (fingerprint (unit_of font l) l (count_of state font l))

abbrev pub notification_of : Option (List ℕ) → List ℕ → Data
notification_of font reason = notification_object font (what_spelled (of_unchecked reason))

-- One telling more in the run that has these results and failures. A run reports a thousand fonts that weren't checked, then the next one
-- begins.
abbrev pub run_step : (SarifState → List Data → List Data → List Run) → SarifState → SarifState → List Data → List Data → Option (List ℕ) → WhatValue
    → Option ReasonValue → List Run
run_step rest state after results failures font (of_line l) reason = rest after (results ++ result_of state font l reason ∷ []) failures
run_step rest state after results failures font (of_unchecked why) reason =
    if nat_lt (length failures) most_failures then rest after results (failures ++ notification_of font why ∷ [])
    else record { results = results; failures = failures } ∷ rest after [] (notification_of font why ∷ [])

-- The run that has these, and those after it.
abbrev pub runs_from : List ToldValue → SarifState → List Data → List Data → List Run
runs_from [] state results failures = record { results = results; failures = failures } ∷ []
runs_from (t ∷ ts) state results failures = run_step (runs_from ts) state (after_one state t) results failures t.font t.what t.reason

-- The runs of a document that has reported these.
abbrev pub runs_of : PagesValue → List ToldValue → List Run
runs_of pages ts = runs_from ts (begun pages) [] []

-- ---- laws

-- What is written from the beginning to the end is the document of the runs.
abbrev pub DocumentsAreOfTheirRuns : Type 0
DocumentsAreOfTheirRuns =
    (pages : PagesValue) (ts : List ToldValue) → opening pages ++ tellings_text (begun pages) ts ≡ document_text pages (runs_of pages ts)

abbrev pub line_count : WhatValue → ℕ
line_count (of_line l) = 1
line_count (of_unchecked reason) = 0

abbrev pub unchecked_count : WhatValue → ℕ
unchecked_count (of_line l) = 0
unchecked_count (of_unchecked reason) = 1

-- All runs have as many results as there are lines of reports and refusals, and report as many fonts as weren't checked; each of a thousand
-- at most.
pub record IsCounted (runs : List Run) (ts : List ToldValue) : Type 0 where
  pub results : sum_by (λ run. length run.results) runs ≡ sum_by (λ t. line_count t.what) ts
  pub failures : sum_by (λ run. length run.failures) runs ≡ sum_by (λ t. unchecked_count t.what) ts
  pub most : AllByRecursion (λ run. length run.failures ≤ most_failures) runs

abbrev pub AllIsTold : Type 0
AllIsTold = (pages : PagesValue) (ts : List ToldValue) → IsCounted (runs_of pages ts) ts

-- What a result shows of a fault is its line without the number: place, code and text of the rule.
abbrev pub MessagesHaveNoNumber : Type 0
MessagesHaveNoNumber =
    (l : FaultLineValue) → IsFaultLine l → behind_colon (fault_spelled l) ≡ spaced (place_words l.place (code_of l.rule)) (text_of l.rule)

-- A path is read back from its URI.
abbrev pub UrisAreReadBack : Type 0
UrisAreReadBack = (path : List ℕ) → AreBytes path → decoded (flat_map uri_byte path) ≡ Some path

-- In each unit the lines of a code are counted from 1 on. One more of the code counts one more, and one of another code nothing: so what a
-- line is known by stays where lines of other codes, or of other units, come or go.
pub record CountsGoOn (state : SarifState) (font : Option (List ℕ)) (l other : LineValue) : Type 0 where
  pub begins : bytes_eq (unit_of font l) state.unit ≡ false → count_of state font l ≡ 1
  pub stays : unit_of font other ≡ unit_of font l → ¬ (line_code l ≡ line_code other)
      → count_of (after_result state font other) font l ≡ count_of state font l
  pub goes_on : unit_of font other ≡ unit_of font l → line_code l ≡ line_code other
      → length state.counts ≡ code_count → count_of (after_result state font other) font l ≡ one_more (count_of state font l)

abbrev pub CountsAreOfTheirUnits : Type 0
CountsAreOfTheirUnits = (state : SarifState) (font : Option (List ℕ)) (l other : LineValue) → CountsGoOn state font l other

-- What is kept from line to line, and so what later lines are known by, doesn't depend on the reasons that are reported.
abbrev pub ReasonsLeaveNoTrace : Type 0
ReasonsLeaveNoTrace =
    (state : SarifState) (t : ToldValue) (reason : Option ReasonValue) (line : List ℕ)
    → after_telling state (record t { reason = reason }) line ≡ after_telling state t line
