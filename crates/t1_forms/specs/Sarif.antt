-- A document of SARIF as it is written: what is before all lines, what one line more adds, and what is after them all.
-- Static Analysis Results Interchange Format 2.1.0, 3.13, 3.14, 3.20.
use Rattle.std.specs.Prelude.{ℕ, ◌+◌, ◌-◌, ◌==◌, nat_lt, Bool, true, false, if◌then◌else◌, List, [], ◌∷◌, ◌++◌, codes, bytes_eq, replicate, slice_index, slice_set, Option, string_bytes}
use Rattle.serde_json.specs.Written.{comma_if, compact_text}
use Rattle.t1_io.specs.Devices.{one_more}
use Rattle.t1_lines.specs.Lines.{LineValue, of_fault, of_refusal}
use Rattle.t1_font.specs.declared.unread.RefusalCode.{RefusalCode}
use Rattle.t1_font.specs.declared.unread.RefusalCode.TheVariants.{E01, E02, E03, E04, E05, E06, E07, E08, E09, E10, E11, E12, E13, E14, E15}
use Rattle.t1_rules.specs.Book.{last_number, number_of}
use Rattle.t1_forms.specs.PageValues.{PagesValue, pages_value}
use Rattle.t1_forms.specs.SarifObjects.{fingerprint, notification_object, result_object, tool_object, unit_of}
use Rattle.t1_forms.specs.Tellings.{ReasonValue, ToldValue, WhatValue, of_line, of_unchecked}
use Rattle.t1_forms.specs.declared.sarif.Sarif.{Sarif}

-- What is kept from line to line.
pub record SarifState : Type 0 where
  -- The pages of rules and refusals.
  pub pages : PagesValue
  -- Whether the run has a result.
  pub has_results : Bool
  -- The unit of the last result.
  pub unit : List ℕ
  -- How many results there were of each code since the unit began, by the code's number.
  pub counts : List ℕ
  -- Why fonts weren't checked, as text, and how many these are.
  pub failures : List ℕ
  pub failure_count : ℕ

abbrev pub sarif_state : Sarif → SarifState
sarif_state s = record {
  pages = pages_value s.pages;
  has_results = s.has_results;
  unit = string_bytes s.unit;
  counts = s.counts;
  failures = string_bytes s.failures;
  failure_count = s.failure_count;
}

-- ---- runs

-- How many fonts that weren't checked a run reports.
abbrev pub most_failures : ℕ
most_failures = 1000

-- What is before the results of a run: the program and the pages of its rules.
unfoldable pub run_begin : PagesValue → List ℕ
run_begin pages = codes "{\"tool\":" ++ (compact_text (tool_object pages) ++ codes ",\"results\":[")

-- And after them: whether each font was checked, and which were not.
abbrev pub truth : Bool → List ℕ
truth is = if is then codes "true" else codes "false"

abbrev pub run_end : Bool → List ℕ → List ℕ
run_end successful failures =
    codes "],\"invocations\":[{\"executionSuccessful\":"
    ++ (truth successful ++ (codes ",\"toolExecutionNotifications\":[" ++ (failures ++ codes "]}]}")))

-- ---- the numbers of codes

abbrev pub refusal_number : RefusalCode → ℕ
refusal_number E01 = 0
refusal_number E02 = 1
refusal_number E03 = 2
refusal_number E04 = 3
refusal_number E05 = 4
refusal_number E06 = 5
refusal_number E07 = 6
refusal_number E08 = 7
refusal_number E09 = 8
refusal_number E10 = 9
refusal_number E11 = 10
refusal_number E12 = 11
refusal_number E13 = 12
refusal_number E14 = 13
refusal_number E15 = 14

-- First the rules', then the refusals'.
abbrev pub code_number : LineValue → ℕ
code_number (of_fault l) = number_of l.rule - 1
code_number (of_refusal code) = last_number + refusal_number code

-- How many codes there are.
abbrev pub code_count : ℕ
code_count = last_number + 15

-- ---- the beginning and the end

abbrev pub no_counts : List ℕ
no_counts = replicate code_count 0

-- A document that has no line yet.
abbrev pub begun : PagesValue → SarifState
begun pages = record { pages = pages; has_results = false; unit = []; counts = no_counts; failures = []; failure_count = 0 }

-- A document whose last result is of this unit, where each font was checked.
abbrev pub resumed : PagesValue → List ℕ → List ℕ → SarifState
resumed pages unit counts = record { pages = pages; has_results = true; unit = unit; counts = counts; failures = []; failure_count = 0 }

abbrev pub document_begin : List ℕ
document_begin = codes "{\"$schema\":\"https://json.schemastore.org/sarif-2.1.0.json\",\"version\":\"2.1.0\",\"runs\":["

abbrev pub opening : PagesValue → List ℕ
opening pages = document_begin ++ run_begin pages

abbrev pub state_end : SarifState → List ℕ
state_end state = run_end (state.failure_count == 0) state.failures

abbrev pub closing : SarifState → List ℕ
closing state = state_end state ++ codes "]}\n"

-- ---- a line of a report, or a refusal

-- In another unit each code is counted anew.
abbrev pub counts_in : SarifState → List ℕ → List ℕ
counts_in state unit = if bytes_eq unit state.unit then state.counts else no_counts

-- The ordinal of the next result among those of its unit and its code.
abbrev pub count_of : SarifState → Option (List ℕ) → LineValue → ℕ
count_of state font l = one_more (slice_index (counts_in state (unit_of font l)) (code_number l))

abbrev pub result_text : SarifState → Option (List ℕ) → LineValue → List ℕ → Option ReasonValue → List ℕ
result_text state font l line reason =
    comma_if state.has_results
    ++ compact_text (result_object state.pages.list font l line reason (fingerprint (unit_of font l) l (count_of state font l)))

abbrev pub after_result : SarifState → Option (List ℕ) → LineValue → SarifState
after_result state font l =
    record state {
      has_results = true;
      unit = unit_of font l;
      counts = slice_set (counts_in state (unit_of font l)) (code_number l) (count_of state font l);
    }

-- ---- why a font wasn't checked

-- Where the run reports as many fonts as it may, the next one begins.
abbrev pub with_room : SarifState → SarifState
with_room state =
    if nat_lt state.failure_count most_failures then state
    else record state { has_results = false; failures = []; failure_count = 0 }

abbrev pub room_text : SarifState → List ℕ
room_text state = if nat_lt state.failure_count most_failures then [] else state_end state ++ (44 ∷ run_begin state.pages)

abbrev pub with_failure : SarifState → List ℕ → SarifState
with_failure state text =
    record state {
      failures = state.failures ++ (comma_if (nat_lt 0 state.failure_count) ++ text);
      failure_count = state.failure_count + 1;
    }

-- ---- what is reported

-- What is written of it. Its line is spelled so.
abbrev pub text_of_what : SarifState → Option (List ℕ) → WhatValue → List ℕ → Option ReasonValue → List ℕ
text_of_what state font (of_line l) line reason = result_text state font l line reason
text_of_what state font (of_unchecked why) line reason = room_text state

abbrev pub telling_text : SarifState → ToldValue → List ℕ → List ℕ
telling_text state t line = text_of_what state t.font t.what line t.reason

abbrev pub after_what : SarifState → Option (List ℕ) → WhatValue → List ℕ → SarifState
after_what state font (of_line l) line = after_result state font l
after_what state font (of_unchecked reason) line = with_failure (with_room state) (compact_text (notification_object font line))

abbrev pub after_telling : SarifState → ToldValue → List ℕ → SarifState
after_telling state t line = after_what state t.font t.what line
