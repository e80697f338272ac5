-- A document of JUnit's form: a case for each font, as Jenkins and GitLab read it.
use Rattle.std.specs.Prelude.{◌==◌, Bool, List, [], ◌++◌, codes, length, Option, None, Some, if◌then◌else◌, option_map, string_bytes, ℕ}
use Rattle.t1_forms.specs.Tellings.{ReasonValue, WhatValue, of_line, of_unchecked}
use Rattle.t1_forms.specs.Xml.{xml_name}
use Rattle.t1_forms.specs.declared.junit.JUnit.{JUnit}
use Rattle.t1_lines.specs.Lines.{of_fault, of_refusal}
use Rattle.t1_rules.specs.Book.{number_of}
use Rattle.t1_rules.specs.Mask.{has}
use Rattle.t1_rules.specs.declared.mask.Mask.{Mask}

-- ---- the parts of a document

-- One suite. It has no counts, which would be before its cases.
abbrev pub opening : List ℕ
opening = codes "<?xml version=\"1.0\" encoding=\"UTF-8\"?>\n<testsuites>\n<testsuite name=\"t1check-all\">\n"

abbrev pub closing : List ℕ
closing = codes "</testsuite>\n</testsuites>\n"

-- The attributes that name a case, by its font. What is of no font has no file.
abbrev pub case_name : Option (List ℕ) → List ℕ
case_name None = codes "(no name)"
case_name (Some name) = xml_name name ++ (codes "\" file=\"" ++ xml_name name)

abbrev pub case_text : Option (List ℕ) → List ℕ → List ℕ
case_text font element =
    codes "<testcase classname=\"t1check-all\" name=\"" ++ (case_name font ++ (codes "\">" ++ (element ++ codes "</testcase>\n")))

-- Why a case isn't passed. All is text of XML.
abbrev pub problem : List ℕ → List ℕ → List ℕ → List ℕ
problem kind message lines =
    codes "<" ++ (kind ++ (codes " message=\"" ++ (message ++ (codes "\">" ++ (lines ++ (codes "</" ++ (kind ++ codes ">")))))))

-- What a font was found with: a failure by the first line that fails, which has all lines; else its lines as output, if it has any.
abbrev pub found_with : Option (List ℕ) → List ℕ → List ℕ
found_with (Some message) lines = problem (codes "failure") message lines
found_with None lines = if length lines == 0 then [] else codes "<system-out>" ++ (lines ++ codes "</system-out>")

-- A line, and below it the text of its reason, as t1check-all writes them.
abbrev pub reason_text : Option ReasonValue → List ℕ
reason_text None = []
reason_text (Some r) = codes "   " ++ (xml_name r.text ++ codes "\n")

abbrev pub line_text : List ℕ → Option ReasonValue → List ℕ
line_text line reason = xml_name line ++ (codes "\n" ++ reason_text reason)

-- A font that was refused, or wasn't checked.
abbrev pub error_text : Option (List ℕ) → List ℕ → List ℕ
error_text font line = case_text font (problem (codes "error") (xml_name line) (xml_name line ++ codes "\n"))

-- ---- what is kept from line to line

pub record JUnitState : Type 0 where
  -- The rules whose lines fail.
  pub failing : Mask
  -- The lines of the font that isn't done yet.
  pub lines : List ℕ
  -- The first of them that fails.
  pub failure : Option (List ℕ)

abbrev pub junit_state : JUnit → JUnitState
junit_state j = record { failing = j.failing; lines = string_bytes j.lines; failure = option_map string_bytes j.failure }

-- A document that has no line yet.
abbrev pub begun : Mask → JUnitState
begun failing = record { failing = failing; lines = []; failure = None }

-- The first line that fails, with one line more.
abbrev pub first_failure : Option (List ℕ) → Bool → List ℕ → Option (List ℕ)
first_failure (Some message) fails line = Some message
first_failure None fails line = if fails then Some line else None

-- ---- what is reported

-- What is written of it, whose line is spelled so: the line of a fault is kept until the font is done.
abbrev pub text_of_what : Option (List ℕ) → WhatValue → List ℕ → List ℕ
text_of_what font (of_line (of_fault l)) line = []
text_of_what font (of_line (of_refusal code)) line = error_text font line
text_of_what font (of_unchecked why) line = error_text font line

abbrev pub after_what : JUnitState → WhatValue → List ℕ → Option ReasonValue → JUnitState
after_what state (of_line (of_fault l)) line reason =
    record state {
      lines = state.lines ++ line_text line reason;
      failure = first_failure state.failure (has state.failing (number_of l.rule)) (xml_name line);
    }
after_what state (of_line (of_refusal code)) line reason = state
after_what state (of_unchecked why) line reason = state

-- Of a font that is done.
abbrev pub found_text : JUnitState → List ℕ → List ℕ
found_text state name = case_text (Some name) (found_with state.failure state.lines)
