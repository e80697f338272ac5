-- The program's answer: text on standard output, text on standard error, and a status.
use Rattle.std.specs.Prelude.{◌≡◌, ℕ, List, [], ◌∷◌, take, drop, Option, None, Some, option_map, string_bytes, Result, Ok, Err, if◌then◌else◌}
use Rattle.t1_font.specs.Fonts.{FontValue}
use Rattle.t1_char.specs.declared.edition.Edition.{Edition}
use Rattle.t1_report.specs.Checked.{checked}
use Rattle.t1_report.specs.Faults.{FaultValue}
use Rattle.t1_report.specs.Reports.{IsReport}
use Rattle.t1_answer.specs.declared.asked.CheckOptions.{CheckOptions}
use Rattle.t1_run.specs.declared.status.Status.{Status}
use Rattle.t1_run.specs.declared.status.Status.TheVariants.{Clean, Failed, Faults, Refused}
use Rattle.t1_report.specs.Refusals.{Refusal}
use Rattle.t1_run.specs.Failures.{no_glyph_line}
use Rattle.t1_run.specs.FontFiles.{font_of}
use Rattle.t1_answer.specs.Lines.{lines_of}
use Rattle.t1_answer.specs.Told.{program, told_of}
use Rattle.t1_rules.specs.Components.{glyph_named}
use Rattle.t1_answer.specs.Traces.{trace_of}
use Rattle.t1_report.specs.Waivers.{Waiver}
use Rattle.t1_answer.specs.Waived.{asks_waivers}
use Rattle.t1_run.specs.WaiverFiles.{waivers_in}

pub record Answer : Type 0 where
  pub output : List ℕ
  pub told : List ℕ
  pub status : Status

-- A refusal: one line on standard error.
abbrev pub refused : List ℕ → Answer
refused line = record { output = []; told = line; status = Refused }

-- Of a report without its first so many faults, at most so many.
abbrev pub at_most : {A : Type 0} → Option ℕ → List A → List A
at_most None faults = faults
at_most (Some max) faults = take max faults

-- What the options choose of a report.
abbrev pub selection : {A : Type 0} → CheckOptions → List A → List A
selection options faults = at_most options.max (drop options.after faults)

-- Whether lines were written.
abbrev pub status_of : {A : Type 0} → List A → Status
status_of [] = Clean
status_of (f ∷ fs) = Faults

-- These faults of a font: their lines on standard output.
abbrev pub reported : FontValue → List Waiver → List FaultValue → Answer
reported font waivers faults =
    record { output = lines_of font waivers faults; told = []; status = status_of faults }

-- What the options choose of a font's report, given waivers; where these aren't read, the reason is printed.
abbrev pub IsReported : CheckOptions → FontValue → Result (List Waiver) Refusal → Answer → Type 0
IsReported options font (Ok waivers) answer =
    (faults : List FaultValue)
    × (IsReport (checked font options.edition) waivers faults × (answer ≡ reported font waivers (selection options faults)))
IsReported options font (Err reason) answer = answer ≡ refused (told_of reason)

-- The trace of a glyph, or that there is none of the name.
abbrev pub traced_at : Edition → FontValue → List ℕ → Option ℕ → Answer
traced_at edition font name None = record { output = []; told = no_glyph_line program name; status = Failed }
traced_at edition font name (Some glyph) = record { output = trace_of edition font glyph; told = []; status = Clean }

abbrev pub traced : Edition → FontValue → List ℕ → Answer
traced edition font name = traced_at edition font name (glyph_named font name)

-- Without a name the answer is the report, with one the trace of that glyph.
abbrev pub IsShown : CheckOptions → FontValue → Result (List Waiver) Refusal → Option (List ℕ) → Answer
    → Type 0
IsShown options font waived None answer = IsReported options font waived answer
IsShown options font waived (Some name) answer = answer ≡ traced options.edition font name

-- The answer of a font that was read is what the options request; else the reason is printed.
abbrev pub IsAnswerTo : CheckOptions → Result FontValue Refusal → Result (List Waiver) Refusal → Answer
    → Type 0
IsAnswerTo options (Ok font) waived answer =
    IsShown options font waived (option_map string_bytes options.trace) answer
IsAnswerTo options (Err reason) waived answer = answer ≡ refused (told_of reason)

-- The waivers of a text, where the options request them; else there are none.
abbrev pub waived_by : CheckOptions → List ℕ → Result (List Waiver) Refusal
waived_by options text = if asks_waivers options then waivers_in options.edition text else Ok []

-- The program's answer to its options and the bytes of a font's file and of a file of waivers.
abbrev pub IsAnswer : CheckOptions → List ℕ → List ℕ → Answer → Type 0
IsAnswer options input text answer = IsAnswerTo options (font_of input) (waived_by options text) answer
